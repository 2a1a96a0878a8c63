-- The position of a code that passes: the walk up from it gives its root and where its path leads.
use Rattle.std.specs.Prelude.{◌≡◌, refl, ℕ, ◌+◌, ◌-◌, ◌^◌, ◌≤◌, ◌<◌, take, replicate}
use Rattle.std.proofs.Common.{sym, ◌∙◌, arith, take-append-drop, take_at}
use Rattle.std.proofs.Math.Path.{ap, subst}
use mathlib.Core.List.{List, [], ◌++◌}
use Rattle.std.proofs.Math.ListN.{length, get_or, drop}
use Rattle.std.proofs.lemmas.List.{length-replicate}
use Rattle.std.proofs.Math.Seq.{paste}
use Rattle.dimension.specs.Sizes.{greatest_depth}
use Rattle.dimension.specs.Laws.{depth_small}
use Rattle.bisection.specs.Roots.{roots}
use Rattle.bisection.specs.Codes.{dimension_of, depth_of, IsCodeOf}
use Rattle.bisection.specs.Refusals.{done, code_refusal}
use Rattle.bisection.specs.Theorems.CodePaths.{root_of, path_of}
use Rattle.bisection.proofs.Theorems.CodePaths.{code_path, length_root, length_path_of}
use Rattle.entries.specs.Passed.{Checked, checked}
use Rattle.fours.specs.declared.Four.{Four}
use Rattle.fours.specs.Fours.{four, no_entries}
use Rattle.steps.specs.Relatives.{code_axes}
use Rattle.steps.specs.Ascents.{up_ready, up_root, up_path}
use Rattle.positions.specs.Positions.{start_of, size_of, PositionIs}
use Rattle.positions.specs.RootNumbers.{number_in, number_front, numbered}
use Rattle.positions.specs.Walks.{WalkReady, Reached}

-- as the code has the dimension and the depth
module _ (code : List ℕ) (e : code_refusal code ≡ done) {d D : ℕ} (ax : d ≡ dimension_of code) (dp : D ≡ depth_of code) where
  k : Checked code
  k = checked code e

  c : IsCodeOf code (root_of code) (path_of code)
  c = code_path code e

  pub place_deep : {most : ℕ} → most ≡ greatest_depth d → D ≤ most
  place_deep g = rw (g, ax, dp) k.good.depth

  small : greatest_depth d ≤ 60
  small = rw ax (depth_small (dimension_of code) k.range)

  pub place_small : {most : ℕ} → most ≡ greatest_depth d → most - D ≤ 60
  place_small g = omega (arith, g, small)

  module _ {n : ℕ} (same : n ≡ d) where
    pub place_axes : (2 ≤ n) × (n ≤ 4) × (2 + n ≤ length code)
    place_axes = rw same (code_axes code e ax dp refl)

    module _ {from : Four} (f : four from ≡ paste no_entries 0 (drop 2 code) n) {most size : ℕ} (g : most ≡ greatest_depth d) (s : size ≡ 2 ^ (most - D)) where
      f_is : four from ≡ paste no_entries 0 (drop 2 code) d
      f_is = rw same at f

      -- the path is found on the way, and written nowhere: a list of zeros stands for its buffer
      pub place_ready : WalkReady d D code (four from) size
      place_ready = record { climb = up_ready code e ax dp f_is (replicate D 0) (omega (arith, length-replicate {A = ℕ} D 0)); depth = place_deep refl; small = small; size_is = rw g at s }

      module _ {root : List ℕ} {start : ℕ} (w : Reached d D code (four from) root start) where
        root_size : length (root_of code) ≡ d
        root_size = length_root c ∙ sym ax

        path_size : length (path_of code) ≡ D
        path_size = length_path_of c ∙ sym dp

        path_is : take D w.path ≡ path_of code
        path_is = ap (take D) (up_path code e ax dp f_is w.climbed) ∙ take_at (path_of code) (drop D (replicate D 0)) D path_size

        pub place_is : {es : List ℕ} {number : ℕ} → es ≡ root → number ≡ number_in n es n → PositionIs code (record { root = number; start = start; size = size })
        unfolding size_of
        place_is {es} {number} j q = record {
          root = root_of code;
          path = path_of code;
          is_code = c;
          number = subst (λ (m : ℕ). m < length (roots (length (root_of code)))) (sym is) (numbered (root_of code) c.good_root.permutation).small;
          root_is = ap (λ (m : ℕ). get_or (roots (length (root_of code))) m []) is ∙ (numbered (root_of code) c.good_root.permutation).is;
          start_is = w.start_is ∙ ap (start_of (greatest_depth d)) path_is ∙ ap (λ (m : ℕ). start_of m (path_of code)) (ap greatest_depth (sym root_size));
          size_is = s ∙ rw (g, root_size, path_size) refl;
        }
          where
            is : number ≡ number_in (length (root_of code)) (root_of code) (length (root_of code))
            is = q ∙ rw (j, same) (ap (λ (l : List ℕ). number_in d l d) (sym (take-append-drop d root) ∙ ap (λ (l : List ℕ). l ++ drop d root) (up_root code e ax dp f_is w.climbed))
                ∙ number_front (root_of code) (drop d root) d d (sym root_size) (omega arith)) ∙ ap (λ (m : ℕ). number_in m (root_of code) m) (sym root_size)
