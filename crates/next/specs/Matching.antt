-- The laws of `matches`. A code of the cell or of a first one inside it fixes the bytes: the dimension, a depth, the cell's
-- entries, and the front of its orthants. So each test is passed by such bytes, and bytes that pass them all are such a code.
use Rattle.std.specs.Prelude.{◌≡◌, Bool, true, false, not, Some, None, ℕ, ◌+◌, ◌-◌, ◌^◌, ◌≤◌, ◌<◌, get_or, take, T}
use Rattle.std.proofs.Math.Path.{refl, ap}
use Rattle.std.proofs.Common.{sym, ◌∙◌, subst, arith, length-take, length-drop, length-append, take-add}
use mathlib.Core.List.{List, [], ◌∷◌, ◌++◌, append_assoc}
use Rattle.std.proofs.Math.ListN.{length, drop}
use Rattle.std.proofs.Math.Seq.{paste, take_at, drop_at, drop-drop}
use Rattle.dimension.specs.declared.Dim.{Dim}
use Rattle.dimension.specs.Sizes.{axes_of, code_length, greatest_depth, halvings, box_depth}
use Rattle.std.proofs.lemmas.Bool.{not-true, not-false}
use Rattle.dimension.specs.Laws.{Dimension, axes_range, box_in, boxes_few}
use Rattle.bisection.specs.Codes.{dimension_of, depth_of, bytes, code_of}
use Rattle.codes.specs.Fronts.{front_length, front_code}
use Rattle.codes.specs.Fronts.Laws.{front_length_is, front_is_front, front_code_rest}
use Rattle.fours.specs.declared.Four.{Four}
use Rattle.fours.specs.Fours.{four, no_entries, SameFour}
use Rattle.fours.specs.Laws.{held_same, pasted}
use Rattle.next.specs.declared.Next.{Next}
use Rattle.next.specs.declared.Match.{Match}
use Rattle.next.specs.Paths.{steps, steps_length, steps_good, zeros, zeros_length}
use Rattle.next.specs.Names.{name_at, all_boxes, rooted_some, name_is, name_passes_at, zeros_entries, zeros_front}
use Rattle.next.specs.Digits.{digits, digits_length, digits_take, SameDigits}
use Rattle.next.specs.Nexts.{entries_of, Stands, First, Matched, MatchIs, AfterReady}

-- the bytes of the code of depth D, and a rest
pub record Shaped (d : ℕ) (s : Next) (bs : List ℕ) : Type 0 where
  pub root : List ℕ
  pub path : List Bool
  pub stands : Stands d s root path
  pub D : ℕ
  pub rest : List ℕ
  pub above : s.depth ≤ D
  pub deep : D ≤ greatest_depth d
  pub is : bs ≡ d ∷ D ∷ ((name_at d root path).entries ++ (digits (box_depth d D) s.boxes ++ rest))

module _ {d : ℕ} {s : Next} {root : List ℕ} {p : List Bool} (st : Stands d s root p) where
  abbrev es : List ℕ
  es = (name_at d root p).entries

  es_size : length es ≡ d
  es_size = (name_passes_at st.cell.rooted p).signed.size

  boxes_at : (D : ℕ) → D ≤ greatest_depth d → take (box_depth d D) (all_boxes d root p) ≡ digits (box_depth d D) s.boxes
  boxes_at D h = ap (take (box_depth d D)) (sym st.boxes_are) ∙ sym (digits_take (box_depth d D) halvings s.boxes (box_in d D (rooted_some st.cell.rooted) h))

  -- the code of a first cell inside
  code_bytes : (n : ℕ) → n + length p ≤ greatest_depth d → code_of root (steps (zeros n p)) ≡ d ∷ (n + length p) ∷ (es ++ digits (box_depth d (n + length p)) s.boxes)
  unfolding code_of bytes
  code_bytes n h = rw (
    st.cell.rooted.axes,
    steps_length (zeros n p),
    zeros_length n p,
    name_is st.cell.rooted (zeros n p),
    zeros_entries st.cell.rooted n p,
    zeros_front
        st.cell.rooted n p h,
    boxes_at (n + length p) h,
  ) refl

  first_shaped : {bs : List ℕ} → First root p (front_code bs) → Shaped d s bs
  first_shaped {bs} f = record {
    root = root;
    path = p;
    stands = st;
    D = f.n + length p;
    rest = drop (front_length bs) bs;
    above = omega (arith, st.cell.depth_is);
    deep = deep;
    is = front_code_rest bs ∙ ap (λ (l : List ℕ). l ++ drop (front_length bs) bs) (f.is_code.is ∙ code_bytes f.n deep)
        ∙ ap (λ (l : List ℕ). d ∷ (f.n + length p) ∷ l) (append_assoc es (digits (box_depth d (f.n + length p)) s.boxes) (drop (front_length bs) bs));
  }
    where
      deep : f.n + length p ≤ greatest_depth d
      deep = subst (λ (n : ℕ). f.n + length p ≤ greatest_depth n) st.cell.rooted.axes (omega (arith, f.is_code.good_path.depth, steps_length (zeros f.n p), zeros_length f.n p))

-- what such bytes pass
module _ {d : ℕ} {s : Next} {bs : List ℕ} (h : Shaped d s bs) where
  ds : List ℕ
  ds = digits (box_depth d h.D) s.boxes

  pub shaped_dimension : get_or bs 0 0 ≡ d
  shaped_dimension = ap (λ (l : List ℕ). get_or l 0 0) h.is

  pub shaped_depth : get_or bs 1 0 ≡ h.D
  shaped_depth = ap (λ (l : List ℕ). get_or l 1 0) h.is

  ds_size : length ds ≡ box_depth d h.D
  unfolding ds
  ds_size = digits_length (box_depth d h.D) s.boxes

  behind : drop 2 bs ≡ es h.stands ++ (ds ++ h.rest)
  unfolding ds
  behind = ap (drop 2) h.is

  pub shaped_room : 2 + d + box_depth d h.D ≤ length bs
  shaped_room = omega (arith, length-drop 2 bs, ap length behind, length-append (es h.stands) (ds ++ h.rest), length-append ds h.rest, es_size h.stands, ds_size, ap length h.is)

  pub shaped_entries : (x : Four) → four x ≡ paste no_entries 0 (drop 2 bs) d → four x ≡ four (entries_of s)
  shaped_entries x q = q ∙ pasted (drop 2 bs) d ∙ ap (λ (l : List ℕ). l ++ drop d no_entries) (ap (take d) behind ∙ take_at (es h.stands) (ds ++ h.rest) d (es_size h.stands))
      ∙ sym h.stands.cell.held.is

  pub shaped_boxes : take (box_depth d h.D) (drop (2 + d) bs) ≡ digits (box_depth d h.D) s.boxes
  unfolding ds
  shaped_boxes = ap (take (box_depth d h.D)) (sym (drop_2 bs) ∙ ap (drop d) behind ∙ drop_at (es h.stands) (ds ++ h.rest) d (es_size h.stands))
      ∙ take_at ds h.rest (box_depth d h.D) ds_size
    where
      drop_2 : (l : List ℕ) → drop d (drop 2 l) ≡ drop (2 + d) l
      drop_2 l = drop-drop d 2 l

-- no more boxes than halvings
pub boxes_within : (dim : Dim) {most D L : ℕ} → most ≡ greatest_depth (axes_of dim) → L ≡ box_depth (axes_of dim) D → D ≤ most → L ≤ halvings
boxes_within dim {D = D} e f l = rw f (box_in (axes_of dim) D (omega (arith, (axes_range dim).two)) (omega (arith, e)))

-- a test that fails
not_matched : {d : ℕ} {s : Next} {bs : List ℕ} → (Shaped d s bs → ⊥) → MatchIs d s bs None
not_matched n = record { room = tt; told = λ root p st f. n (first_shaped st f) }

false_true : {t : Bool} → not t ≡ true → t ≡ true → ⊥
false_true {t} n e = subst T (sym e ∙ not-true t n) tt

-- a is the number of axes, D the depth and L the number of boxes, as `matches` has them
module _ {d : ℕ} {s : Next} {bs : List ℕ} where
  pub other_dimension : {a x : ℕ} → a ≡ d → x ≡ get_or bs 0 0 → (x ≡ a → ⊥) → MatchIs d s bs None
  other_dimension e f n = not_matched (λ h. n (f ∙ shaped_dimension h ∙ sym e))

  module _ {D : ℕ} (deep : D ≡ get_or bs 1 0) where
    pub not_inside : D < s.depth → MatchIs d s bs None
    not_inside l = not_matched (λ h. omega (arith, deep, shaped_depth h, h.above))

    pub too_deep : {most : ℕ} → most ≡ greatest_depth d → most < D → MatchIs d s bs None
    too_deep e l = not_matched (λ h. omega (arith, e, deep, shaped_depth h, h.deep))

    module _ {a L : ℕ} (axes : a ≡ d) (boxes : L ≡ box_depth d D) where
      pub no_room : length bs < 2 + a + L → MatchIs d s bs None
      no_room l = not_matched (λ h. omega (arith, axes, boxes, ap (box_depth d) (deep ∙ shaped_depth h), shaped_room h))

      pub other_boxes : {r : Bool} → SameDigits L (take L (drop (2 + a) bs)) s.boxes r → not r ≡ true → MatchIs d s bs None
      other_boxes t n = not_matched (λ h. false_true n (t.told (rw (axes, boxes, deep, shaped_depth h) (shaped_boxes h))))

  pub other_entries : {a : ℕ} {x es : Four} {r : Bool} → a ≡ d → four x ≡ paste no_entries 0 (drop 2 bs) a → es ≡ entries_of s → SameFour x es r → not r ≡ true
      → MatchIs d s bs None
  other_entries {x = x} e f g t n = not_matched (λ h. false_true n (t.told (rw g (shaped_entries h x (rw e at f)))))

pub length_fits : {d a D most L : ℕ} → a ≡ d → Dimension d → most ≡ greatest_depth d → D ≤ most → L ≡ box_depth d D → 2 + a + L < 2 ^ 64
length_fits {d} {D = D} e n f h g = omega (arith, e, n.few, g, boxes_few d D n (rw f at h))

-- all tests pass
module _ {d : ℕ} (s : Next) (D L : ℕ) (bs : List ℕ) (dim : get_or bs 0 0 ≡ d) (dep : get_or bs 1 0 ≡ D) (boxes : L ≡ box_depth d D) (above : s.depth ≤ D) (deep : D ≤ greatest_depth d)
    (room : 2 + d + L ≤ length bs) where
  front_size : front_length bs ≡ 2 + d + L
  unfolding code_length dimension_of depth_of
  front_size = front_length_is bs ∙ rw (dim, dep, boxes) refl

  first_two : (l : List ℕ) → 2 ≤ length l → take 2 l ≡ get_or l 0 0 ∷ get_or l 1 0 ∷ []
  first_two [] h = absurd (omega arith)
  first_two (x ∷ []) h = absurd (omega arith)
  first_two (x ∷ y ∷ l) h = refl

  front : front_code bs ≡ d ∷ D ∷ (take d (drop 2 bs) ++ take L (drop (2 + d) bs))
  front =
      sym (front_is_front bs)
      ∙ ap (λ (n : ℕ). take n bs) front_size
      ∙ take-add (2 + d) L bs
      ∙ ap (λ (l : List ℕ). l ++ take L (drop (2 + d) bs)) (take-add 2 d bs ∙ ap (λ (l : List ℕ). l ++ take d (drop 2 bs)) two)
    where
      two : take 2 bs ≡ d ∷ D ∷ []
      two = first_two bs (omega arith) ∙ rw (dim, dep) refl

  module _ (x : Four) (x_is : four x ≡ paste no_entries 0 (drop 2 bs) d) (same : four x ≡ four (entries_of s)) (alike : take L (drop (2 + d) bs) ≡ digits L s.boxes) where
    matched : MatchIs d s bs (Some (record { length = 2 + d + L; depth = D; boxes = L }))
    matched = record { room = room; told = hit }
      where
        hit : (root : List ℕ) (p : List Bool) → Stands d s root p → Matched root p bs (record { length = 2 + d + L; depth = D; boxes = L })
        hit root p st = record {
          first = record {
            n = D - length p;
            is_code = record {
              good_root = st.cell.rooted.good;
              good_path = record {
                steps = (steps_good (zeros (D - length p) p)).small;
                depth = rw
                    (st.cell.rooted.axes, steps_length (zeros (D - length p) p), zeros_length (D - length p) p, whole) deep;
              };
              is = front ∙ ap (λ (l : List ℕ). d ∷ D ∷ (l ++ take L (drop (2 + d) bs))) entries ∙ ap (λ (l : List ℕ). d ∷ D ∷ (es st ++ l)) (alike ∙ ap (λ (n : ℕ). digits n s.boxes) boxes)
                  ∙ sym code;
            };
          };
          length_is = sym front_size;
          depth_is = sym whole;
          boxes_are = boxes ∙ ap (λ (n : ℕ). box_depth n D) (sym st.cell.rooted.axes);
        }
          where
            whole : D - length p + length p ≡ D
            whole = omega (arith, st.cell.depth_is)

            size : length (take d (drop 2 bs)) ≡ d
            size = simp (length-take, length-drop) (omega arith)

            entries : take d (drop 2 bs) ≡ es st
            entries = held_same st.cell.held {x = x} (x_is ∙ pasted (drop 2 bs) d) size same

            code : code_of root (steps (zeros (D - length p) p)) ≡ d ∷ D ∷ (es st ++ digits (box_depth d D) s.boxes)
            code = code_bytes st (D - length p) (rw whole deep) ∙ rw whole refl

pub all_matched : {d a x D most L : ℕ} {s : Next} {bs : List ℕ} {f es : Four} {r t : Bool} → a ≡ d → x ≡ get_or bs 0 0 → x ≡ a → D ≡ get_or bs 1 0 → s.depth ≤ D → most ≡ greatest_depth d → D ≤ most
    → L ≡ box_depth d D → 2 + a + L ≤ length bs → four f ≡ paste no_entries 0 (drop 2 bs) a → es ≡ entries_of s → SameFour f es r → not r ≡ false
    → SameDigits L (take L (drop (2 + a) bs)) s.boxes t → not t ≡ false → MatchIs d s bs (Some (record { length = 2 + a + L; depth = D; boxes = L }))
all_matched {d} {D = D} {L = L} {s = s} {bs = bs} {f = f} {r = r} {t = t} axes x_is x_a dep above most deep boxes room f_is es_are same r_is alike t_is =
    subst (λ (n : ℕ). MatchIs d s bs (Some (record { length = 2 + n + L; depth = D; boxes = L }))) (sym axes)
    (matched s D L bs (sym x_is ∙ x_a ∙ axes) (sym dep) boxes above (rw most at deep) (rw axes at room) f (rw axes at f_is) ((rw es_are at same).equal (not-false r r_is)) (rw axes at (alike.equal (not-false t t_is))))

-- what matches is ready for the next
pub matched_ready : {d : ℕ} {s : Next} {root : List ℕ} {p : List Bool} {bs : List ℕ} {r : Match} → Stands d s root p → Matched root p bs r → AfterReady d s r.depth
matched_ready {d} {s} {root} {p} {bs} {r} st m = record {
  root = root;
  path = p;
  n = m.first.n;
  stands = st;
  depth_is = m.depth_is;
  deep = subst (λ (n : ℕ). r.depth ≤ greatest_depth n) st.cell.rooted.axes (omega (
    arith,
    m.depth_is,
    m.first.is_code.good_path.depth,
    steps_length
        (zeros m.first.n p),
    zeros_length m.first.n p,
  ));
}

pub matched_boxes : {d : ℕ} {s : Next} {root : List ℕ} {p : List Bool} {bs : List ℕ} {r : Match} → Stands d s root p → Matched root p bs r → r.boxes ≡ box_depth d r.depth
matched_boxes {r = r} st m = m.boxes_are ∙ ap (λ (n : ℕ). box_depth n r.depth) st.cell.rooted.axes
