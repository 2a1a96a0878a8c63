-- Document 01, "Cells worked by hand": the proved set, and cases of requests No. 1, No. 4 and No. 5, as rows of one table under one claim.
use Rattle.std.specs.Prelude.{refl, List, [], ◌∷◌, pos, replicate}
use Rattle.dimension.specs.Sizes.{is_dimension, halvings, cube_side, side_after, greatest_depth, level, split_place, box_depth, box_side, code_length, points_length}
use Rattle.std.proofs.Common.{arith}
use Rattle.bisection.specs.Cells.{midpoint, child, moved, corners, root_cell, cell_below, cell_of, point_bytes, cell_bytes}
use Rattle.bisection.specs.Codes.{minus, axis, negated, turned, stepped, high, minus_on, orthant_to, orthant, step, name_below, name_of, bytes, code_of, dimension_of, depth_of, entries_of, orthants_of, parts_of}
use Rattle.bisection.specs.Refusals.{done, refused_sign, first_refusal, each, fresh, permutes, orthants_fit, own_minus, signs_own, head_refusal, length_of, body_refusal, code_refusal, is_root, is_path}
use Rattle.bisection.specs.Theorems.CodePaths.{root_of, path_of, child_code}
use Rattle.bisection.specs.Theorems.Paths.{root_to, path_to}
use Rattle.bisection.specs.Theorems.Passing.{parent_name, last_step, unstepped, fewer}
use Rattle.bisection.specs.Theorems.Entries.{unturned}
use Rattle.bisection.specs.Theorems.Table.{move, new_at, exchanged, negated_at, entries_by, flipped, runs_out, carried, orthants_by, blocked_by, next_own, move_of, blocked, across_name, new_place}
use Rattle.listing.specs.Texts.{digit, spelled, decimal, hex, number_line, leaf_line, leaf_lines, good_text, refused_text}
use Rattle.listing.specs.Texts.{good as good_listing}
use Rattle.demands.specs.TwoLeaves.{two_leaves, two_leaves_text, one_leaf, two_leaves_good, one_leaf_listed, too_large_listed}
use Rattle.demands.specs.Rows.{Row, path_to_code, vertices, code_check, child_at, cross, walled, sheet_check, listing, leaf_at, value_at, slope_at, compatible, Every}
use Rattle.bisection.specs.Weights.{sum_to}
use Rattle.points.specs.Points.{point_of, is_point}
use Rattle.greys.specs.Samples.{grey_sum, sample_at, low_first}
use Rattle.greys.specs.Exact.{cube_power}
use Rattle.sheets.specs.Sheets.{samples_of, sheet_good}
use Rattle.demands.specs.PointTen.{weights_ten, ten_weighs, ten_leaf}
use Rattle.demands.specs.SlopeTwo.{slope_leaf, slope_linear}
use Rattle.compatible.specs.Compatible.{yes_all}
use Rattle.demands.specs.Seam.{seam}
use Rattle.demands.specs.Theorems.Cracked.{two_compatible}
use Rattle.demands.specs.Theorems.Seam.{seam_answer}
use Rattle.demands.specs.Shown.{LeafShown, SlopeShown, Shown, ◌and◌, no_more, every}

unfoldable pub table : List Row
table =
    -- P1: (0,0) (4096,0) (4096,4096)
    path_to_code (1 ∷ 2 ∷ []) [] (0x02 ∷ 0x00 ∷ 0x01 ∷ 0x02 ∷ []) ∷
    vertices (0x02 ∷ 0x00 ∷ 0x01 ∷ 0x02 ∷ []) (0x00 ∷ 0x00 ∷ 0x00 ∷ 0x00 ∷ 0x00 ∷ 0x10 ∷ 0x00 ∷ 0x00 ∷ 0x00 ∷ 0x10 ∷ 0x00 ∷ 0x10 ∷ []) ∷
    -- P2: (4096,0) (4096,4096) (2048,2048)
    path_to_code (1 ∷ 2 ∷ []) (1 ∷ []) (0x02 ∷ 0x01 ∷ 0x02 ∷ 0x81 ∷ []) ∷
    vertices (0x02 ∷ 0x01 ∷ 0x02 ∷ 0x81 ∷ []) (0x00 ∷ 0x10 ∷ 0x00 ∷ 0x00 ∷ 0x00 ∷ 0x10 ∷ 0x00 ∷ 0x10 ∷ 0x00 ∷ 0x08 ∷ 0x00 ∷ 0x08 ∷ []) ∷
    -- P3: (4096,0) (2048,0) (2048,2048)
    path_to_code (1 ∷ 2 ∷ []) (0 ∷ 1 ∷ []) (0x02 ∷ 0x02 ∷ 0x81 ∷ 0x02 ∷ 0x01 ∷ []) ∷
    vertices (0x02 ∷ 0x02 ∷ 0x81 ∷ 0x02 ∷ 0x01 ∷ []) (0x00 ∷ 0x10 ∷ 0x00 ∷ 0x00 ∷ 0x00 ∷ 0x08 ∷ 0x00 ∷ 0x00 ∷ 0x00 ∷ 0x08 ∷ 0x00 ∷ 0x08 ∷ []) ∷
    -- P4: (2048,0) (3072,0) (3072,1024)
    path_to_code (1 ∷ 2 ∷ []) (0 ∷ 1 ∷ 0 ∷ 1 ∷ []) (0x02 ∷ 0x04 ∷ 0x01 ∷ 0x02 ∷ 0x01 ∷ 0x00 ∷ []) ∷
    vertices (0x02 ∷ 0x04 ∷ 0x01 ∷ 0x02 ∷ 0x01 ∷ 0x00 ∷ []) (0x00 ∷ 0x08 ∷ 0x00 ∷ 0x00 ∷ 0x00 ∷ 0x0C ∷ 0x00 ∷ 0x00 ∷ 0x00 ∷ 0x0C ∷ 0x00 ∷ 0x04 ∷ []) ∷
    -- P5
    path_to_code (1 ∷ 2 ∷ 3 ∷ []) (1 ∷ []) (0x03 ∷ 0x01 ∷ 0x02 ∷ 0x03 ∷ 0x81 ∷ []) ∷
    -- P6: root 2 1 is (0,0) (0,4096) (4096,4096)
    cross (0x02 ∷ 0x00 ∷ 0x01 ∷ 0x02 ∷ []) 1 (0x02 ∷ 0x00 ∷ 0x02 ∷ 0x01 ∷ []) 1 (0 ∷ 4096 ∷ []) ∷
    walled (0x02 ∷ 0x00 ∷ 0x01 ∷ 0x02 ∷ []) 0 ∷
    walled (0x02 ∷ 0x00 ∷ 0x01 ∷ 0x02 ∷ []) 2 ∷
    -- P7: the one is (0,0) (4096,0) (2048,2048), the other P2's cell
    cross (0x02 ∷ 0x01 ∷ 0x01 ∷ 0x02 ∷ []) 0 (0x02 ∷ 0x01 ∷ 0x02 ∷ 0x81 ∷ []) 1 (4096 ∷ 4096 ∷ []) ∷
    cross (0x02 ∷ 0x01 ∷ 0x02 ∷ 0x81 ∷ []) 1 (0x02 ∷ 0x01 ∷ 0x01 ∷ 0x02 ∷ []) 0 (0 ∷ 0 ∷ []) ∷
    -- P8: across facet 0 lies (0,0) (2048,0) (2048,2048), across facet 1 (4096,0) (4096,2048) (2048,2048)
    cross (0x02 ∷ 0x02 ∷ 0x81 ∷ 0x02 ∷ 0x01 ∷ []) 0 (0x02 ∷ 0x02 ∷ 0x01 ∷ 0x02 ∷ 0x00 ∷ []) 0 (0 ∷ 0 ∷ []) ∷
    cross (0x02 ∷ 0x02 ∷ 0x81 ∷ 0x02 ∷ 0x01 ∷ []) 1 (0x02 ∷ 0x02 ∷ 0x02 ∷ 0x81 ∷ 0x01 ∷ []) 1 (4096 ∷ 2048 ∷ []) ∷
    walled (0x02 ∷ 0x02 ∷ 0x81 ∷ 0x02 ∷ 0x01 ∷ []) 2 ∷
    -- request No. 5, where a child's number changes: P3 is child 1 of P7's first cell, and what lies across its facet 1 (P8) is child 0 of P2
    child_at (0x02 ∷ 0x01 ∷ 0x01 ∷ 0x02 ∷ []) 1 (0x02 ∷ 0x02 ∷ 0x81 ∷ 0x02 ∷ 0x01 ∷ []) ∷
    child_at (0x02 ∷ 0x01 ∷ 0x02 ∷ 0x81 ∷ []) 0 (0x02 ∷ 0x02 ∷ 0x02 ∷ 0x81 ∷ 0x01 ∷ []) ∷
    -- P9
    code_check (0x02 ∷ 0x01 ∷ 0x81 ∷ 0x02 ∷ []) refused_sign ∷
    code_check (0x02 ∷ 0x00 ∷ 0x01 ∷ 0x82 ∷ []) refused_sign ∷
    code_check (0x02 ∷ 0x01 ∷ 0x01 ∷ 0x82 ∷ []) done ∷
    child_at (0x02 ∷ 0x00 ∷ 0x02 ∷ 0x01 ∷ []) 1 (0x02 ∷ 0x01 ∷ 0x01 ∷ 0x82 ∷ []) ∷
    -- P10: its sheet, and at (1024,1024) record 0, the weights 3072, 0, 1024 and the value 20
    sheet_check two_leaves 2 ∷
    listing two_leaves two_leaves_text ∷
    leaf_at two_leaves (0x00 ∷ 0x04 ∷ 0x00 ∷ 0x04 ∷ []) 0 (3072 ∷ 0 ∷ 1024 ∷ []) ∷
    value_at two_leaves (0x00 ∷ 0x04 ∷ 0x00 ∷ 0x04 ∷ []) 20 ∷
    -- request No. 1, on the same sheet: at (1024,512) the slopes 10/4096 and 30/4096
    slope_at two_leaves (0x00 ∷ 0x04 ∷ 0x00 ∷ 0x02 ∷ []) (pos 10 ∷ pos 30 ∷ []) 4096 ∷
    -- its first 12 bytes: "refused 14 at 12"; and one byte too many: "refused 15 at 0"
    listing one_leaf (0x72 ∷ 0x65 ∷ 0x66 ∷ 0x75 ∷ 0x73 ∷ 0x65 ∷ 0x64 ∷ 0x20 ∷ 0x31 ∷ 0x34 ∷ 0x20 ∷ 0x61 ∷ 0x74 ∷ 0x20 ∷ 0x31 ∷ 0x32 ∷ 0x0A ∷ []) ∷
    listing (replicate 65537 0x43) (0x72 ∷ 0x65 ∷ 0x66 ∷ 0x75 ∷ 0x73 ∷ 0x65 ∷ 0x64 ∷ 0x20 ∷ 0x31 ∷ 0x35 ∷ 0x20 ∷ 0x61 ∷ 0x74 ∷ 0x20 ∷ 0x30 ∷ 0x0A ∷ []) ∷
    -- request No. 4: the two roots are compatible; with the first split into its children the leaves are not
    compatible two_leaves 1 ∷
    compatible seam 0 ∷
    []

ten : LeafShown two_leaves (0x00 ∷ 0x04 ∷ 0x00 ∷ 0x04 ∷ []) 0 weights_ten
unfolding two_leaves_good is_point point_of each point_bytes cube_side halvings
ten = record { count = 2; good_sheet = two_leaves_good; passes = refl; leaf = ten_leaf; weighs = ten_weighs; size = refl }

museum : SlopeShown two_leaves (0x00 ∷ 0x04 ∷ 0x00 ∷ 0x02 ∷ []) (pos 10 ∷ pos 30 ∷ []) 4096
unfolding two_leaves_good is_point point_of each cube_side halvings box_side box_depth side_after
museum = record { count = 2; good_sheet = two_leaves_good; passes = refl; number = 0; leaf = slope_leaf; side_is = refl; linear = slope_linear; power = cube_power; small = (omega arith, omega arith, omega arith, omega arith) }

-- the claim
pub worked : Every table
unfolding Shown table code_of bytes name_of name_below step stepped turned negated minus axis orthant orthant_to minus_on high level split_place
    box_depth code_length cell_of cell_below root_cell corners moved child midpoint cube_side halvings greatest_depth is_dimension child_code code_refusal head_refusal
    length_of body_refusal first_refusal each fresh permutes orthants_fit own_minus signs_own dimension_of depth_of entries_of orthants_of parts_of is_root is_path point_bytes
    cell_bytes points_length root_of path_of root_to path_to parent_name last_step unturned unstepped fewer move new_at exchanged negated_at entries_by flipped runs_out carried
    orthants_by blocked_by next_own move_of blocked across_name new_place digit spelled decimal hex number_line leaf_line leaf_lines good_text refused_text two_leaves_good
    ten grey_sum sample_at low_first sum_to samples_of box_side side_after
worked = every table (
    record { dimension = refl; depth = refl; good = refl; steps = refl; is = refl }
    and record { passes = refl; is = refl; size = refl }
    and record { dimension = refl; depth = refl; good = refl; steps = refl; is = refl }
    and record { passes = refl; is = refl; size = refl }
    and record { dimension = refl; depth = refl; good = refl; steps = refl; is = refl }
    and record { passes = refl; is = refl; size = refl }
    and record { dimension = refl; depth = refl; good = refl; steps = refl; is = refl }
    and record { passes = refl; is = refl; size = refl }
    and record { dimension = refl; depth = refl; good = refl; steps = refl; is = refl }
    and record { passes = refl; facet = refl; free = refl; is = refl; at = refl; lands = refl }
    and record { passes = refl; facet = refl; blocked = refl }
    and record { passes = refl; facet = refl; blocked = refl }
    and record { passes = refl; facet = refl; free = refl; is = refl; at = refl; lands = refl }
    and record { passes = refl; facet = refl; free = refl; is = refl; at = refl; lands = refl }
    and record { passes = refl; facet = refl; free = refl; is = refl; at = refl; lands = refl }
    and record { passes = refl; facet = refl; free = refl; is = refl; at = refl; lands = refl }
    and record { passes = refl; facet = refl; blocked = refl }
    and record { passes = refl; step = refl; deeper = refl; is = refl }
    and record { passes = refl; step = refl; deeper = refl; is = refl }
    and refl
    and refl
    and refl
    and record { passes = refl; step = refl; deeper = refl; is = refl }
    and two_leaves_good
    and good_listing (omega arith) two_leaves_good
    and ten
    and record { number = 0; weights = weights_ten; leaf_shown = ten; small = omega arith; sum = refl }
    and museum
    and one_leaf_listed
    and too_large_listed
    and sheet_good two_leaves_good (yes_all two_compatible refl)
    and seam_answer
    and no_more)
