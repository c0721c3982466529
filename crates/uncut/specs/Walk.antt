-- A WALK OVER THE MEMBERS OF A CONTAINER in stored bytes (`Passed`): whatever members stand there begin with those passed (`rest_of`). Assumes nothing.
use Rattle.std.specs.Prelude.{◌≡◌, List, ◌++◌, Bool, true, false, ℕ, ◌+◌, ◌≤◌, ◌<◌}
use Rattle.std.proofs.Math.Path.{refl, sym}
use Rattle.std.proofs.Common.{ap, ◌∙◌, append_assoc, length-append}
use native.Mathlib.Omega.{arith}
use Rattle.std.proofs.Math.ListN.{length, drop}
use Rattle.language.specs.Tree.{Forest, none, more, sizes}
use Rattle.shaped.specs.Beside.{beside, beside_size}
use Rattle.stored.specs.Old.{content, forms, form}
use Rattle.stored.specs.Bytes.{At, at_left, at_right}
use Rattle.sound.specs.Members.{Member, pair, element, Many, many_none, many_more, many_last, some_member}
use Rattle.std.specs.declared.option.Option.{Option}
use Rattle.std.specs.declared.option.Option.TheVariants.{Some, None}
use Rattle.uncut.specs.declared.tested.Several.{Several}
use Rattle.uncut.specs.Heads.{end_at, at_join, at_as, at_place, field_end}
use Rattle.uncut.specs.Tested.{one_form, two_forms, few_forms, Stand, Tests}

pub beside_forms : (ts us : Forest) → forms (beside ts us) ≡ forms ts ++ forms us
unfolding beside content
beside_forms none us = refl
beside_forms (more t ts) us = ap (λ (l : List ℕ). form t ++ l) (beside_forms ts us) ∙ sym (append_assoc (form t) (forms ts) (forms us))

beside_length : (ts us : Forest) → length (forms (beside ts us)) ≡ length (forms ts) + length (forms us)
beside_length ts us = ap length (beside_forms ts us) ∙ length-append (forms ts) (forms us)

module _ (stored : List ℕ) where
  -- the place behind the member at a place: its heads say where it ends
  abbrev member_end : Bool → ℕ → ℕ
  member_end true a = end_at stored (end_at stored a)
  member_end false a = end_at stored a

  member_end_lem : {o : Bool} {k a : ℕ} {ts : Forest} → Member o k ts → At stored a (forms ts) → member_end o a ≡ a + length (forms ts)
  member_end_lem {a = a} (pair {t = t} {v = v} x y) h =
      let g = at_as (two_forms t v) h in
      let e = field_end t (at_left stored (form t) (form v) g) in
      let f = field_end v (at_place (sym e) (at_right stored (form t) (form v) refl g)) in
      omega (arith, ap length (two_forms t v), length-append (form t) (form v))
  member_end_lem (element {t = t} x) h = omega (arith, field_end t (at_as (one_form t) h), ap length (one_form t))

  -- a member in front, and the others
  module _ {a : ℕ} {vs : Forest} (ts us : Forest) (e : vs ≡ beside ts us) (h : At stored a (forms vs)) where
    both : At stored a (forms ts ++ forms us)
    both = at_as (ap forms e ∙ beside_forms ts us) h

    front_at : At stored a (forms ts)
    unfolding both
    front_at = at_left stored (forms ts) (forms us) both

    others_at : At stored (a + length (forms ts)) (forms us)
    unfolding both
    others_at = at_right stored (forms ts) (forms us) refl both

    whole_length : length (forms vs) ≡ length (forms ts) + length (forms us)
    whole_length = ap length (ap forms e) ∙ beside_length ts us

  module _ (o : Bool) where
    -- members that are left from `at` up to `end`
    pub record Rest (k at end : ℕ) : Type 0 where
      pub count : ℕ
      pub members : Forest
      pub many : Many (Member o k) count members
      pub here : At stored at (forms members)
      pub total : at + length (forms members) ≡ end

    -- two runs of members from one place on: the longer one begins with the shorter
    pub rest_of : {k l n m a end : ℕ} {ts us : Forest} → Many (Member o k) n ts → Many (Member o l) m us → At stored a (forms ts) → At stored a (forms us) → a + length (forms us) ≡ end
        → (at : ℕ) → at ≡ a + length (forms ts) → at ≤ end → Rest l at end
    unfolding content
    rest_of {m = m} {us = us} many_none y h g t at e l = record { count = m; members = us; many = y; here = at_place (let z : _ ≡ at = omega arith in z) g; total = omega arith }
    rest_of (many_more {ts = fs} {us = vs} q x f) many_none h g t at e l =
        absurd (omega (arith, whole_length fs vs f h, few_forms fs, some_member q))
    rest_of {a = a} (many_more {ts = fs} {us = vs} q x f) (many_more {ts = gs} {us = ws} r y i) h g t at e l =
        let z = member_end_lem q (front_at fs vs f h) in
        let w = member_end_lem r (front_at gs ws i g) in
        let p : a + length (forms gs) ≡ a + length (forms fs) = sym w ∙ z in
        rest_of x y (others_at fs vs f h) (at_place p (others_at gs ws i g)) (omega (arith, whole_length gs ws i g)) at (omega (arith, whole_length fs vs f h)) l

    -- n members stand from `from` up to `at`, and have so many rows
    pub record Passed (k from end at n rows : ℕ) : Type 0 where
      pub front : Forest
      pub many : Many (Member o k) n front
      pub here : At stored from (forms front)
      pub place : at ≡ from + length (forms front)
      pub count : rows ≡ sizes front
      pub inside : at ≤ end

    pub passed_none : {k from end : ℕ} → from ≤ end → Passed k from end from 0 0
    unfolding content sizes
    passed_none {from = from} l = record { front = none; many = many_none; here = record { behind = drop from stored; is = refl }; place = omega arith; count = refl; inside = l }

    module _ {k from end at n rows : ℕ} (w : Passed k from end at n rows) where
      pub passed_more : {next m : ℕ} → Stand stored (Member o k) at end next m → Passed k from end next (n + 1) (rows + m)
      passed_more s =
          let f = w.front in
          let g = s.members in
          record {
            front = beside f g;
            many = many_last w.many s.good;
            here = at_as (sym (beside_forms f g)) (at_join (forms f) (forms g) w.here s.here w.place);
            place = omega (arith, beside_length f g, w.place, s.end);
            count = omega (arith, beside_size f g, w.count, s.rows);
            inside = s.below;
          }

      -- no member stands here: so none in all
      pub passed_bad : at < end → Tests stored (Member o k) at end None → (m : ℕ) (ts : Forest) → Many (Member o k) m ts → At stored from (forms ts) → from + length (forms ts) ≡ end → ⊥
      unfolding content
      passed_bad l f m ts x h t = by z.members z.many z.here z.total
        where
          z : Rest k at end
          z = rest_of w.many x w.here h t at w.place w.inside

          by : {j : ℕ} (us : Forest) → Many (Member o k) j us → At stored at (forms us) → at + length (forms us) ≡ end → ⊥
          by us many_none g e = omega arith
          by us (many_more {ts = fs} {us = vs} q y i) g e = f fs q (front_at fs vs i g) (omega (arith, whole_length fs vs i g))

  -- WHAT A WALK OVER ALL MEMBERS TELLS
  abbrev pub Went : Bool → ℕ → ℕ → ℕ → Option Several → Type 0
  Went o k from end (Some m) = Passed o k from end end m.count m.rows
  Went o k from end None = (m : ℕ) (ts : Forest) → Many (Member o k) m ts → At stored from (forms ts) → from + length (forms ts) ≡ end → ⊥
