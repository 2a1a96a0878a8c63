-- The cell after a leaf: up without the 1s at the path's end, one step on, and the orthants from there on renewed.
use Rattle.std.specs.Prelude.{◌≡◌, Bool, false, List, [], ◌∷◌, ◌++◌, Some, None, length, replicate}
use Rattle.std.proofs.Common.{sym, ◌∙◌, arith}
use Rattle.std.proofs.Math.Path.{ap, subst}
use Rattle.std.proofs.Math.Bool.{true}
use Prim.Native.Nat.{ℕ, suc, ◌+◌, ◌-◌, ◌*◌, ◌^◌, ◌≤◌, ◌<◌}
use Rattle.std.proofs.Math.Nat.{pow-le-pow_right}
use Rattle.std.proofs.lemmas.List.{nil_from_length}
use Rattle.std.proofs.Math.ListN.{take}
use Rattle.dimension.specs.Sizes.{split_place, box_depth, greatest_depth, halvings}
use Rattle.dimension.specs.Laws.{split_range, box_under, depth_small}
use Rattle.bisection.specs.Codes.{turned, step, stepped, orthant}
use Rattle.bisection.proofs.Theorems.Passing.{orthant_fits}
use Rattle.steps.specs.Above.{place_above, boxes_above, BoxesReady, above_ready, go_place, go_boxes}
use Rattle.fours.specs.declared.Four.{Four}
use Rattle.fours.specs.Fours.{four, Holds, OwnIs}
use Rattle.fours.specs.Laws.{held_few, held_turned}
use Rattle.next.specs.declared.Next.{Next}
use Rattle.next.specs.declared.Up.{Up}
use Rattle.next.specs.Paths.{zeros, zeros_length, stripped, stripped_short, Zero, zero_last, number, number_under, number_zeros}
use Rattle.next.specs.Names.{name_at, all_boxes, rooted_range, rooted_some, boxes_step, zeros_entries, zeros_front, stripped_front}
use Rattle.next.specs.Digits.{digits}
use Rattle.next.specs.Nexts.{entries_of, next_of, Cell, Stands, ClimbReady, UpIs, AfterReady, On, AfterIs}

number_small : (p : List Bool) → length p ≤ 60 → number p < 2 ^ 60
number_small p h = omega (arith, number_under p, pow-le-pow_right {n = 2} (omega arith) {i = length p} {j = 60} h)

-- the leaf with n zeros behind the cell's path
module _ {d : ℕ} {s : Next} {root : List ℕ} {p : List Bool} (st : Stands d s root p) (n D : ℕ) (D_is : D ≡ n + length p) (deep : D ≤ greatest_depth d) where
  abbrev q : List Bool
  q = zeros n p

  q_size : length q ≡ D
  q_size = zeros_length n p ∙ sym D_is

  number_is : s.path * 2 ^ (D - s.depth) ≡ number q
  number_is = let e : D - s.depth ≡ n = omega (arith, st.cell.depth_is) in rw (e, st.cell.path_is) (sym (number_zeros n p))

  pub leaf_short : D ≤ 60
  leaf_short = omega (arith, depth_small d (rooted_range st.cell.rooted))

  pub leaf_number : s.path * 2 ^ (D - s.depth) < 2 ^ 64
  leaf_number = rw number_is (omega (arith, number_small q (omega (arith, q_size, leaf_short))))

  pub leaf_cell : Cell d (entries_of s) (s.path * 2 ^ (D - s.depth)) D root q
  leaf_cell = record { rooted = st.cell.rooted; held = subst (Holds d (entries_of s)) (sym (zeros_entries st.cell.rooted n p)) st.cell.held; path_is = number_is; depth_is = sym q_size }

  -- what is left without the 1s at the end
  module _ (u : Up) (c : Cell d u.entries u.path u.depth root (stripped q)) where
    pub leaf_over : u.depth ≡ 0 → stripped q ≡ []
    leaf_over e = nil_from_length (stripped q) (sym c.depth_is ∙ e)

    module _ (some : u.depth ≡ 0 → ⊥) where
      z : Zero q
      z = zero_last q (omega (arith, c.depth_is, some))

      abbrev r : List Bool
      r = z.rest

      here : Cell d u.entries u.path u.depth root (false ∷ r)
      here = subst (Cell d u.entries u.path u.depth root) z.is c

      above_is : u.depth - 1 ≡ length r
      above_is = omega (arith, here.depth_is)

      room : length r < greatest_depth d
      room = omega (arith, here.depth_is, c.depth_is, stripped_short q, q_size)

      pub on_boxes : box_depth d (u.depth - 1) ≤ halvings
      on_boxes = rw above_is (omega (arith, box_under d (length r) (rooted_some c.rooted) room))

      pub on_number : u.path + 1 < 2 ^ 64
      on_number = omega (arith, c.path_is, number_small (stripped q) (omega (arith, c.depth_is, stripped_short q, q_size, leaf_short)))

      held : Holds d u.entries (name_at d root r).entries
      unfolding name_at step stepped
      held = here.held

      module _ (k : ℕ) (k_is : k ≡ split_place d (u.depth - 1)) where
        range : (1 ≤ k) × (k ≤ d)
        range = rw k_is (split_range d (u.depth - 1) (rooted_some c.rooted))

        pub on_turn : k - 1 < 4
        on_turn = omega (arith, range, held_few held)

        module _ (e : Four) (e_is : four e ≡ turned (suc (k - 1)) (four u.entries)) where
          on_held : Holds d e (name_at d root (true ∷ r)).entries
          unfolding name_at step stepped
          on_held = subst (Holds d e) (ap (λ (m : ℕ). turned m (name_at d root r).entries) place) (held_turned held e (k - 1) (omega (arith, range)) e_is)
            where
              place : suc (k - 1) ≡ split_place d (length r)
              place = omega (arith, range) ∙ k_is ∙ ap (split_place d) above_is

          module _ (own : ℕ) (own_is : OwnIs e own) where
            is_own : own ≡ orthant (name_at d root (true ∷ r)).entries
            is_own = own_is.own d (name_at d root (true ∷ r)).entries on_held

            pub on_own : own < 16
            on_own = rw is_own (omega (arith, orthant_fits on_held.signed, pow-le-pow_right {n = 2} (omega arith) {i = d} {j = 4} (held_few on_held)))

            pub on_stands : (boxes : ℕ) → digits halvings boxes ≡ take (box_depth d (u.depth - 1)) (digits halvings s.boxes) ++ replicate (halvings - box_depth d (u.depth - 1)) own
                → On d root q (next_of e boxes u.depth (u.path + 1))
            on_stands boxes b = record {
              path = r;
              last = z.is;
              stands = record {
                cell = record { rooted = c.rooted; held = on_held; path_is = unfold number in omega (arith, here.path_is); depth_is = here.depth_is };
                deep = room;
                boxes_are = b ∙ rw (above_is, st.boxes_are, is_own, ← front) (sym (boxes_step c.rooted true r room));
              };
            }
              where
                leaf_front : (name_at d root q).orthants ≡ take (box_depth d (length q)) (all_boxes d root p)
                leaf_front = zeros_front c.rooted n p (omega (arith, D_is)) ∙ ap (λ (m : ℕ). take (box_depth d m) (all_boxes d root p)) (sym (zeros_length n p))

                front : (name_at d root r).orthants ≡ take (box_depth d (length r)) (all_boxes d root p)
                front = stripped_front c.rooted q r (all_boxes d root p) z.is leaf_front

-- the cell above a leaf without the 1s at its path's end, whatever root and path the next cell stands for
pub record Risen (d : ℕ) (s : Next) (D : ℕ) (u : Up) : Type 0 where
  pub ready : AfterReady d s D
  pub place_is : u.place ≡ split_place d u.depth
  pub boxes_are : u.boxes ≡ box_depth d u.depth
  pub cells : (root : List ℕ) (p : List Bool) (n : ℕ) → Stands d s root p → D ≡ n + length p → Cell d u.entries u.path u.depth root (stripped (zeros n p))

-- the laws of `after`: its needs for the one cell that it is ready for, its answer for all
module _ {d : ℕ} {s : Next} {D : ℕ} (y : AfterReady d s D) where
  pub after_short : D - s.depth ≤ 60
  after_short = omega (arith, leaf_short y.stands y.n D y.depth_is y.deep)

  module _ {m : ℕ} (m_is : m ≡ 2 ^ (D - s.depth)) where
    pub after_path : s.path * m < 2 ^ 64
    after_path = rw m_is (leaf_number y.stands y.n D y.depth_is y.deep)

    module _ {es : Four} (es_are : es ≡ entries_of s) where
      cell_at : (root : List ℕ) (p : List Bool) (n : ℕ) → Stands d s root p → D ≡ n + length p → Cell d es (s.path * m) D root (zeros n p)
      cell_at root p n st e = rw (es_are, m_is) (leaf_cell st n D e y.deep)

      pub after_climb : ClimbReady d es (s.path * m) D
      after_climb = record { root = y.root; path = zeros y.n y.path; cell = cell_at y.root y.path y.n y.stands y.depth_is }

      pub after_risen : {u : Up} → UpIs d es (s.path * m) D u → Risen d s D u
      after_risen up = record { ready = y; place_is = up.place_is; boxes_are = up.boxes_are; cells = λ root p n st e. up.up root (zeros n p) (cell_at root p n st e) }

module _ {d : ℕ} {s : Next} {D : ℕ} {u : Up} (r : Risen d s D u) where
  pub after_over : u.depth ≡ 0 → AfterIs d s D None
  after_over z = record { gone = λ root p n st e. leaf_over st n D e r.ready.deep u (r.cells root p n st e) z }

  module _ (some : u.depth ≡ 0 → ⊥) where
    mine : Cell d u.entries u.path u.depth r.ready.root (stripped (zeros r.ready.n r.ready.path))
    mine = r.cells r.ready.root r.ready.path r.ready.n r.ready.stands r.ready.depth_is

    pub after_number : u.path + 1 < 2 ^ 64
    after_number = on_number r.ready.stands r.ready.n D r.ready.depth_is r.ready.deep u mine some

    d0 : 0 < d
    d0 = rooted_some mine.rooted

    pub after_small : u.place ≤ 8
    after_small = omega (arith, r.place_is, split_range d u.depth d0, held_few mine.held)

    module _ {a : ℕ} (axes : a ≡ d) where
      pub after_boxes : BoxesReady u.boxes u.place a
      after_boxes = rw axes (above_ready d0 (omega (arith, some)) r.place_is r.boxes_are)

      module _ {k : ℕ} (k_above : k ≡ place_above u.place a) where
        k_is : k ≡ split_place d (u.depth - 1)
        k_is = go_place {boxes = u.boxes} d0 (omega (arith, some)) r.place_is r.boxes_are (rw axes at k_above)

        pub after_turn : k - 1 < 4
        after_turn = on_turn r.ready.stands r.ready.n D r.ready.depth_is r.ready.deep u mine some k k_is

        module _ {e : Four} (e_is : four e ≡ turned (suc (k - 1)) (four u.entries)) {own : ℕ} (own_is : OwnIs e own) {l : ℕ} (l_above : l ≡ boxes_above u.boxes u.place a) where
          l_is : l ≡ box_depth d (u.depth - 1)
          l_is = go_boxes d0 (omega (arith, some)) r.place_is r.boxes_are (rw axes at l_above)

          pub after_fill : (l ≤ halvings) × (own < 16)
          after_fill = (rw l_is (on_boxes r.ready.stands r.ready.n D r.ready.depth_is r.ready.deep u mine some), on_own r.ready.stands r.ready.n D r.ready.depth_is r.ready.deep u mine some k k_is e e_is own own_is)

          pub after_on : {boxes : ℕ} → digits halvings boxes ≡ take l (digits halvings s.boxes) ++ replicate (halvings - l) own
              → AfterIs d s D (Some (next_of e boxes u.depth (u.path + 1)))
          after_on {boxes} b = record { gone = λ root p n st f. on_stands st n D f r.ready.deep u (r.cells root p n st f) some k k_is e e_is own own_is boxes (rw l_is at b) }
