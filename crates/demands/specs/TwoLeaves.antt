-- The sheet of document 01, "The listing program": its 24 bytes, that they are good, and that its first 12 end early.
use Rattle.std.specs.Prelude.{◌≡◌, refl, List, [], ◌∷◌, ℕ, ◌+◌, length, drop, replicate}
use Rattle.std.proofs.Common.{ap, arith, length-drop}
use Rattle.std.proofs.lemmas.List.{length-replicate}
use Rattle.dimension.specs.Sizes.{is_dimension}
use Rattle.bisection.specs.Roots.{roots, arrangements, joined, picks, axes_from}
use Rattle.bisection.specs.Codes.{name_below, name_of, bytes, code_of}
use Rattle.bisection.specs.Refusals.{done, refused_leaf, refused_large}
use Rattle.sheets.specs.Forests.{TreeCell, tree_cell, leaf, leaves, root_cells, no_deeper_none, no_deeper_more}
use Rattle.sheets.specs.Forests.{none as forest_none, more as forest_more}
use Rattle.sheets.specs.Sheets.{sheet_mark, sample_width, none, more, GoodSheet, record_length, record_refusal, Read, start, next, told, ended_early, SheetIs}
use Rattle.sheets.specs.Theorems.Listing.{GoodCell, CellsIn, cells_more, leaves_cells, record_passes, record_rest, record_read}
use Rattle.sheets.specs.Theorems.Good.{good_alone}
use Rattle.listing.specs.Texts.{refused_text, Listing, large, refused}

-- the 24 bytes of "The listing program", which P10 looks into: the leaves are the two roots
abbrev pub two_leaves : List ℕ
two_leaves = 0x43 ∷ 0x4C ∷ 0x02 ∷ 0x00 ∷ 0x01 ∷ 0x02 ∷ 0x0A ∷ 0x00 ∷ 0x14 ∷ 0x00 ∷ 0x32 ∷ 0x00 ∷ 0x43 ∷ 0x4C ∷ 0x02 ∷ 0x00 ∷ 0x02 ∷ 0x01 ∷ 0x0A ∷ 0x00 ∷ 0x1E ∷ 0x00 ∷ 0x32 ∷ 0x00 ∷ []

-- and what is written of them: "dim 2", "0 02000102", "1 02000201", "leaves 2"
abbrev pub two_leaves_text : List ℕ
two_leaves_text =
    0x64 ∷ 0x69 ∷ 0x6D ∷ 0x20 ∷ 0x32 ∷ 0x0A ∷
    0x30 ∷ 0x20 ∷ 0x30 ∷ 0x32 ∷ 0x30 ∷ 0x30 ∷ 0x30 ∷ 0x31 ∷ 0x30 ∷ 0x32 ∷ 0x0A ∷
    0x31 ∷ 0x20 ∷ 0x30 ∷ 0x32 ∷ 0x30 ∷ 0x30 ∷ 0x30 ∷ 0x32 ∷ 0x30 ∷ 0x31 ∷ 0x0A ∷
    0x6C ∷ 0x65 ∷ 0x61 ∷ 0x76 ∷ 0x65 ∷ 0x73 ∷ 0x20 ∷ 0x32 ∷ 0x0A ∷ []

-- its first 12 bytes: the first record alone
abbrev pub one_leaf : List ℕ
one_leaf = 0x43 ∷ 0x4C ∷ 0x02 ∷ 0x00 ∷ 0x01 ∷ 0x02 ∷ 0x0A ∷ 0x00 ∷ 0x14 ∷ 0x00 ∷ 0x32 ∷ 0x00 ∷ []

-- the sheet's forest: each root is a leaf
unfoldable pub two_leaves_good : GoodSheet sheet_mark sample_width two_leaves 2
unfolding code_of bytes name_of name_below roots arrangements joined picks axes_from root_cells leaves is_dimension
two_leaves_good = record {
  dimension = 2;
  has_dimension = refl;
  cells = tree_cell (1 ∷ 2 ∷ []) [] ∷ tree_cell (2 ∷ 1 ∷ []) [] ∷ [];
  leaves = record { forest = forest_more leaf refl (forest_more leaf refl forest_none); within = no_deeper_more {c = tree_cell (1 ∷ 2 ∷ []) []} (omega arith) (no_deeper_more {c = tree_cell (2 ∷ 1 ∷ []) []} (omega arith) no_deeper_none) };
  records = more (0x0A ∷ 0x00 ∷ 0x14 ∷ 0x00 ∷ 0x32 ∷ 0x00 ∷ []) refl refl (more (0x0A ∷ 0x00 ∷ 0x1E ∷ 0x00 ∷ 0x32 ∷ 0x00 ∷ []) refl refl none);
  count = refl;
}

-- the first record is read, and no good sheet ends there
first_leaf : TreeCell
first_leaf = tree_cell (1 ∷ 2 ∷ []) []

samples : List ℕ
samples = 0x0A ∷ 0x00 ∷ 0x14 ∷ 0x00 ∷ 0x32 ∷ 0x00 ∷ []

head_good : {d : ℕ} {c : TreeCell} {cs : List TreeCell} → CellsIn d (c ∷ cs) → GoodCell c
head_good (cells_more g e l) = g

first_good : GoodCell first_leaf
unfolding first_leaf two_leaves_good
first_good = head_good (leaves_cells 2 two_leaves_good.has_dimension two_leaves_good.leaves)

one_passes : record_refusal sheet_mark sample_width one_leaf ≡ done
unfolding first_leaf samples code_of bytes name_of name_below
one_passes = record_passes sheet_mark sample_width first_leaf first_good samples [] refl

one_length : 12 ≡ 0 + record_length sheet_mark sample_width one_leaf
unfolding first_leaf samples code_of bytes name_of name_below
one_length =
    let nothing : drop (record_length sheet_mark sample_width one_leaf) one_leaf ≡ [] = record_rest sheet_mark sample_width first_leaf first_good samples [] refl in
    omega (arith, ap length nothing, length-drop (record_length sheet_mark sample_width one_leaf) one_leaf, (record_read sheet_mark sample_width one_leaf one_passes).inside)

one_read : Read sheet_mark sample_width one_leaf 12 1
one_read = next start one_passes one_length (record { rest = drop 12 two_leaves; count = 2; good = two_leaves_good })

one_ended : SheetIs one_leaf (told refused_leaf 12 0)
one_ended = ended_early one_read refl (λ m g. never m g) refl
  where
    never : (m : ℕ) → GoodSheet sheet_mark sample_width one_leaf m → ⊥
    never m g = let none_left : drop 12 two_leaves ≡ [] = good_alone g two_leaves_good in omega (arith, ap length none_left)

pub one_leaf_listed : Listing one_leaf (refused_text refused_leaf 12)
one_leaf_listed = refused (omega arith) (told refused_leaf 12 0) one_ended (omega arith)

-- one byte more than the program takes
pub too_large_listed : Listing (replicate 65537 0x43) (refused_text refused_large 0)
too_large_listed = large (omega (arith, length-replicate {A = ℕ} 65537 0x43))
