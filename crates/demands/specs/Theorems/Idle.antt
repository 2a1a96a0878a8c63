-- No idle program meets its contract: on a few inputs the contract allows another outcome alone.
use Rattle.std.specs.Prelude.{◌≡◌, refl, List, [], ◌∷◌, ◌++◌, ◌≢◌, ℕ, zero, suc, ◌≤◌, length, get_or, take, drop}
use Rattle.std.proofs.Common.{ap, ◌∙◌, arith}
use Rattle.dimension.specs.Sizes.{is_dimension, halvings, cube_side, greatest_depth, level, split_place, box_depth, code_length}
use Rattle.bisection.specs.Cells.{moved, corners, root_cell, cell_below, cell_of}
use Rattle.bisection.specs.Codes.{minus, axis, negated, turned, stepped, high, minus_on, orthant_to, orthant, step, name_below, name_of, bytes, code_of, dimension_of, depth_of, entries_of, orthants_of, parts_of}
use Rattle.bisection.specs.Refusals.{done, first_refusal, each, fresh, permutes, orthants_fit, own_minus, signs_own, head_refusal, length_of, body_refusal, code_refusal, is_root, is_path}
use Rattle.bisection.specs.Theorems.Table.{move, new_at, exchanged, negated_at, entries_by, flipped, runs_out, carried, orthants_by, blocked_by, next_own, move_of, blocked, across_name, new_place}
use Rattle.bisection.specs.Theorems.Paths.{root_to, path_to}
use Rattle.bisection.specs.Theorems.CodePaths.{root_of, path_of}
use Rattle.codes.specs.declared.Written.{Written}
use Rattle.codes.specs.declared.PathWritten.{PathWritten}
use Rattle.codes.specs.Outcomes.{PathToCode, to_path_refusal, CodeToPath}
use Rattle.codes.specs.Determined.{path_to_code_determined}
use Rattle.crossing.specs.declared.Vertex.{Vertex}
use Rattle.crossing.specs.Outcome.{by_axes, nowhere, Crosses}
use Rattle.crossing.proofs.Determined.{determined}
use Rattle.sheets.specs.declared.SheetAnswer.{SheetAnswer}
use Rattle.sheets.specs.Sheets.{SheetIs, Good}
use Rattle.compatible.specs.declared.CompatibleAnswer.{CompatibleAnswer}
use Rattle.compatible.specs.Compatible.{CompatibleIs}
use Rattle.demands.specs.Rows.{path_to_code, cross, Answered, Holds, Every}
use Rattle.demands.specs.Shown.{Shown, ◌and◌, no_more, every}
use Rattle.demands.specs.TwoLeaves.{two_leaves, two_leaves_good}
use Rattle.demands.specs.Theorems.Two.{demand_2}
use Rattle.demands.specs.Seam.{seam}
use Rattle.demands.specs.Theorems.Cracked.{two_compatible, seam_good, seam_incompatible}
use Rattle.demands.specs.Idle.{NoIdleProgram}

-- the codes of the two roots in dimension 2, and of path 01 on the first
abbrev first : List ℕ
first = 0x02 ∷ 0x00 ∷ 0x01 ∷ 0x02 ∷ []

abbrev second : List ℕ
second = 0x02 ∷ 0x00 ∷ 0x02 ∷ 0x01 ∷ []

abbrev deeper : List ℕ
deeper = 0x02 ∷ 0x02 ∷ 0x81 ∷ 0x02 ∷ 0x01 ∷ []

shown : Every (path_to_code (1 ∷ 2 ∷ []) [] first ∷ path_to_code (2 ∷ 1 ∷ []) [] second ∷ path_to_code (1 ∷ 2 ∷ []) (0 ∷ 1 ∷ []) deeper ∷ cross first 1 second 1 (0 ∷ 4096 ∷ []) ∷ [])
unfolding Shown code_of bytes name_of name_below step stepped turned negated minus axis orthant orthant_to minus_on high level split_place box_depth code_length halvings
    greatest_depth is_dimension code_refusal head_refusal length_of body_refusal first_refusal each fresh permutes orthants_fit own_minus signs_own dimension_of depth_of entries_of
    orthants_of parts_of is_root is_path move new_at exchanged negated_at entries_by flipped runs_out carried orthants_by blocked_by next_own move_of blocked across_name new_place
    cell_of cell_below root_cell corners moved cube_side root_of path_of root_to path_to
shown = every _ (
    record { dimension = refl; depth = refl; good = refl; steps = refl; is = refl }
    and record { dimension = refl; depth = refl; good = refl; steps = refl; is = refl }
    and record { dimension = refl; depth = refl; good = refl; steps = refl; is = refl }
    and record { passes = refl; facet = refl; free = refl; is = refl; at = refl; lands = refl }
    and no_more)

first_code : Answered (PathToCode (1 ∷ 2 ∷ []) []) first
unfolding Every Holds
first_code = shown.0

second_code : Answered (PathToCode (2 ∷ 1 ∷ []) []) second
unfolding Every Holds
second_code = shown.1.0

deeper_code : Answered (PathToCode (1 ∷ 2 ∷ []) (0 ∷ 1 ∷ [])) deeper
unfolding Every Holds
deeper_code = shown.1.1.0

crossing : (before : List ℕ) → 4 ≤ length before → Crosses first 1 before (record { refusal = done; place = 1; length = 4; vertex = by_axes (0 ∷ 4096 ∷ []) }) (second ++ drop 4 before)
unfolding Every Holds
crossing = shown.1.1.1.0

abbrev four : List ℕ
four = 0 ∷ 0 ∷ 0 ∷ 0 ∷ []

abbrev five : List ℕ
five = 0 ∷ 0 ∷ 0 ∷ 0 ∷ 0 ∷ []

refuses_paths : (number : ℕ) → number ≢ done → ((root path before : List ℕ) → PathToCode root path before (record { refusal = number; length = 0 }) before) → ⊥
unfolding Answered
refuses_paths number k f = k (ap (λ (r : Written). r.refusal) (path_to_code_determined (1 ∷ 2 ∷ []) [] (f (1 ∷ 2 ∷ []) [] four) (first_code four (omega arith))).0)

refuses_crossings : (number : ℕ) → number ≢ done → ((code : List ℕ) (i : ℕ) (before : List ℕ) → Crosses code i before (record { refusal = number; place = 0; length = 0; vertex = nowhere }) before) → ⊥
refuses_crossings number k f = k (determined (f first 1 four) (crossing four (omega arith))).refusal

-- the root of each code, as code to path reads it into two cells
both_pass : (to_path_refusal first 2 0 ≡ done) × (to_path_refusal second 2 0 ≡ done)
unfolding to_path_refusal minus axis high level split_place box_depth code_length halvings greatest_depth is_dimension code_refusal head_refusal length_of body_refusal first_refusal each fresh permutes orthants_fit own_minus signs_own
    dimension_of depth_of entries_of orthants_of
both_pass = (refl, refl)

first_root : (s : PathWritten) (roots' paths' : List ℕ) → CodeToPath first (0 ∷ 0 ∷ []) [] s roots' paths' → take s.axes roots' ≡ 1 ∷ 2 ∷ []
unfolding Answered
first_root s roots' paths' c = (demand_2.path_and_back (1 ∷ 2 ∷ []) [] four _ _ (first_code four (omega arith)) refl (0 ∷ 0 ∷ []) [] s roots' paths' c (c.number ∙ both_pass.0)).0

second_root : (s : PathWritten) (roots' paths' : List ℕ) → CodeToPath second (0 ∷ 0 ∷ []) [] s roots' paths' → take s.axes roots' ≡ 2 ∷ 1 ∷ []
unfolding Answered
second_root s roots' paths' c = (demand_2.path_and_back (2 ∷ 1 ∷ []) [] four _ _ (second_code four (omega arith)) refl (0 ∷ 0 ∷ []) [] s roots' paths' c (c.number ∙ both_pass.1)).0

head_of : (n : ℕ) (l : List ℕ) {a : ℕ} {rest : List ℕ} → take n l ≡ a ∷ rest → get_or l 0 0 ≡ a
head_of zero l e = absurd (omega (arith, ap length e))
head_of (suc n) [] e = absurd (omega (arith, ap length e))
head_of (suc n) (x ∷ l) e = ap (λ (l : List ℕ). get_or l 0 0) e

fixed_root : (root : List ℕ) (r : List ℕ → PathWritten) (path : List ℕ → List ℕ) → ((code roots paths : List ℕ) → CodeToPath code roots paths (r code) (root ++ drop (length root) roots) (path code)) → ⊥
fixed_root root r path f = omega (arith, head_of (r first).axes _ (first_root (r first) _ (path first) (f first (0 ∷ 0 ∷ []) [])), head_of (r second).axes _ (second_root (r second) _ (path second) (f second (0 ∷ 0 ∷ []) [])))

own_cell : (place : List ℕ → ℕ → ℕ) (vertex : List ℕ → ℕ → Vertex)
    → ((code : List ℕ) (i : ℕ) (before : List ℕ) → Crosses code i before (record { refusal = done; place = place code i; length = length code; vertex = vertex code i }) (code ++ drop (length code) before)) → ⊥
own_cell place vertex f = omega (arith, ap (λ (l : List ℕ). get_or l 2 0) (determined (f first 1 four) (crossing four (omega arith))).buffer)

writes_nothing : (r : List ℕ → List ℕ → Written) → ((root path before : List ℕ) → PathToCode root path before (r root path) before) → ⊥
unfolding Answered
writes_nothing r f = omega (arith, ap (λ (l : List ℕ). get_or l 0 0) (path_to_code_determined (1 ∷ 2 ∷ []) [] (f (1 ∷ 2 ∷ []) [] four) (first_code four (omega arith))).1)

first_step : (r : List ℕ → List ℕ → Written) → ((root path before : List ℕ) → PathToCode root path before (r root path) (code_of root (take 1 path) ++ drop (length (code_of root (take 1 path))) before)) → ⊥
unfolding Answered code_of bytes name_of name_below
first_step r f = omega (arith, ap (λ (l : List ℕ). get_or l 1 0) (path_to_code_determined (1 ∷ 2 ∷ []) (0 ∷ 1 ∷ []) (f (1 ∷ 2 ∷ []) (0 ∷ 1 ∷ []) five) (deeper_code five (omega arith))).1)

yes_to_all : (r : List ℕ → CompatibleAnswer) → ((sheet : List ℕ) (n : ℕ) → Good sheet n → (r sheet).compatible ≡ 1) → ((sheet : List ℕ) → CompatibleIs sheet (r sheet)) → ⊥
unfolding seam_good
yes_to_all r h f = seam_incompatible ((demand_2.compatible seam (r seam) (f seam) 3 seam_good).0 (h seam 3 seam_good))

no_to_all : (r : List ℕ → CompatibleAnswer) → ((sheet : List ℕ) (n : ℕ) → Good sheet n → (r sheet).compatible ≡ 0) → ((sheet : List ℕ) → CompatibleIs sheet (r sheet)) → ⊥
no_to_all r h f = omega (arith, h two_leaves 2 two_leaves_good, (demand_2.compatible two_leaves (r two_leaves) (f two_leaves) 2 two_leaves_good).1 two_compatible)

thin_air : (count : ℕ) (r : List ℕ → SheetAnswer) → ((sheet : List ℕ) (n : ℕ) → Good sheet n → (r sheet).records ≡ count) → ((sheet : List ℕ) → SheetIs sheet (r sheet)) → ⊥
thin_air count r h f = omega (arith, h two_leaves 2 two_leaves_good, h seam 3 seam_good, (demand_2.good_yes two_leaves (r two_leaves) (f two_leaves) 2 two_leaves_good).1, (demand_2.good_yes seam (r seam) (f seam) 3 seam_good).1)

pub no_idle_program : NoIdleProgram
no_idle_program = record {
  refuses_paths = refuses_paths;
  refuses_crossings = refuses_crossings;
  fixed_root = fixed_root;
  own_cell = own_cell;
  writes_nothing = writes_nothing;
  first_step = first_step;
  yes_to_all = yes_to_all;
  no_to_all = no_to_all;
  thin_air = thin_air;
}
