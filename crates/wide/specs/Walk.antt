-- A WALK OVER THE MEMBERS OF A CONTAINER in a content (`Passed`): whatever members stand there begin with those passed (`rest_of`). Assumes nothing.
use Rattle.std.specs.Prelude.{◌≡◌, List, ◌++◌, Bool, ℕ, ◌+◌, ◌≤◌, ◌<◌}
use Rattle.std.proofs.Math.Path.{refl}
use Rattle.std.proofs.Common.{sym, ap, ◌∙◌, append_assoc, length-append}
use native.Mathlib.Omega.{arith}
use Rattle.std.proofs.Math.ListN.{length, drop}
use Rattle.language.specs.Tree.{Tree, Forest, none, more, sizes, text_of, texts_of}
use Rattle.shaped.specs.Beside.{beside, beside_size}
use Rattle.stored.specs.Form.{content, forms, form}
use Rattle.stored.proofs.ApartLaws.{form_apart}
use Rattle.stored.specs.Unspanned.{form_alike}
use Rattle.stored.proofs.LengthsLaws.{forms_length, form_longer}
use Rattle.stored.specs.Bytes.{At, at_left, at_right, at_join, at_as, at_place}
use Rattle.sound.specs.Members.{Sane, Member, pair, element, Many, many_none, many_more, many_last}
use Rattle.std.specs.declared.option.Option.{Option}
use Rattle.std.specs.declared.option.Option.TheVariants.{Some, None}
use Rattle.wide.specs.declared.Walked.{Walked}
use Rattle.wide.specs.Tests.{one_form, two_forms, key_same, Stand, Tests}

pub beside_forms : (ts us : Forest) → forms (beside ts us) ≡ forms ts ++ forms us
unfolding beside content
beside_forms none us = refl
beside_forms (more t ts) us = ap (λ (l : List ℕ). form t ++ l) (beside_forms ts us) ∙ sym (append_assoc (form t) (forms ts) (forms us))

beside_length : (ts us : Forest) → length (forms (beside ts us)) ≡ length (forms ts) + length (forms us)
beside_length ts us = ap length (beside_forms ts us) ∙ length-append (forms ts) (forms us)

beside_text : (ts us : Forest) → length (texts_of (beside ts us)) ≡ length (texts_of ts) + length (texts_of us)
unfolding beside texts_of
beside_text none us = omega arith
beside_text (more t ts) us = let e = beside_text ts us in omega (arith, length-append (text_of t) (texts_of (beside ts us)), length-append (text_of t) (texts_of ts))

module _ (v : List ℕ) where
  -- two members at one place end at one place
  same_value : {k l a : ℕ} {t u : Tree} → Sane k t → Sane l u → At v a (form t) → At v a (form u) → form t ≡ form u
  same_value {t = t} {u = u} x y h g = form_alike t u (form_apart {r = h.behind} {w = g.behind} x.shaped y.shaped (sym h.is ∙ g.is)).alike

  member_same : {o : Bool} {k l a : ℕ} {ts us : Forest} → Member o k ts → Member o l us → At v a (forms ts) → At v a (forms us) → length (forms ts) ≡ length (forms us)
  member_same {a = a} (pair {t = t} {v = p} x y) (pair {t = u} {v = q} z w) h g =
      let i = at_as (two_forms t p) h in
      let j = at_as (two_forms u q) g in
      let e = ap length (key_same v x z (at_left v (form t) (form p) i) (at_left v (form u) (form q) j)) in
      let f = ap length (same_value y w (at_right v (form t) (form p) refl i) (at_place (let b : a + length (form u) ≡ a + length (form t) = omega arith in b) (at_right v (form u) (form q) refl j))) in
      omega (arith, ap length (two_forms t p), ap length (two_forms u q), length-append (form t) (form p), length-append (form u) (form q))
  member_same (element {t = t} x) (element {t = u} y) h g =
      let e = ap length (same_value x y (at_as (one_form t) h) (at_as (one_form u) g)) in
      omega (arith, ap length (one_form t), ap length (one_form u))

  -- a member has a field
  some_forms : {o : Bool} {k : ℕ} {ts : Forest} → Member o k ts → 0 < length (forms ts)
  some_forms (pair {t = t} {v = p} x y) = omega (arith, forms_length t (more p none), form_longer t)
  some_forms (element {t = t} x) = omega (arith, forms_length t none, form_longer t)

  -- a member in front, and the others
  module _ {a : ℕ} {vs : Forest} (ts us : Forest) (e : vs ≡ beside ts us) (h : At v a (forms vs)) where
    both : At v a (forms ts ++ forms us)
    both = at_as (ap forms e ∙ beside_forms ts us) h

    front_at : At v a (forms ts)
    unfolding both
    front_at = at_left v (forms ts) (forms us) both

    others_at : At v (a + length (forms ts)) (forms us)
    unfolding both
    others_at = at_right v (forms ts) (forms us) refl both

    whole_length : length (forms vs) ≡ length (forms ts) + length (forms us)
    whole_length = ap length (ap forms e) ∙ beside_length ts us

  module _ (o : Bool) where
    -- members that are left from `at` up to `end`
    pub record Rest (k at end : ℕ) : Type 0 where
      pub count : ℕ
      pub members : Forest
      pub many : Many (Member o k) count members
      pub here : At v at (forms members)
      pub total : at + length (forms members) ≡ end

    -- two runs of members from one place on: the longer one begins with the shorter
    pub rest_of : {k l n m a end : ℕ} {ts us : Forest} → Many (Member o k) n ts → Many (Member o l) m us → At v a (forms ts) → At v a (forms us) → a + length (forms us) ≡ end
        → (at : ℕ) → at ≡ a + length (forms ts) → at ≤ end → Rest l at end
    unfolding content
    rest_of {m = m} {us = us} many_none y h g t at e l = record { count = m; members = us; many = y; here = at_place (let z : _ ≡ at = omega arith in z) g; total = omega arith }
    rest_of (many_more {ts = fs} {us = vs} q x f) many_none h g t at e l =
        absurd (omega (arith, whole_length fs vs f h, some_forms q))
    rest_of {a = a} (many_more {ts = fs} {us = vs} q x f) (many_more {ts = gs} {us = ws} r y i) h g t at e l =
        let z = member_same q r (front_at fs vs f h) (front_at gs ws i g) in
        let p : a + length (forms gs) ≡ a + length (forms fs) = omega arith in
        rest_of x y (others_at fs vs f h) (at_place p (others_at gs ws i g)) (omega (arith, whole_length gs ws i g)) at (omega (arith, whole_length fs vs f h)) l

    -- n members stand from `from` up to `at`, and have so many rows
    pub record Passed (k from end at n rows bytes : ℕ) : Type 0 where
      pub front : Forest
      pub many : Many (Member o k) n front
      pub here : At v from (forms front)
      pub place : at ≡ from + length (forms front)
      pub count : rows ≡ sizes front
      pub text : bytes ≡ length (texts_of front)
      pub inside : at ≤ end

    pub passed_none : {k from end : ℕ} → from ≤ end → Passed k from end from 0 0 0
    unfolding content sizes texts_of
    passed_none {from = from} l = record { front = none; many = many_none; here = record { behind = drop from v; is = refl }; place = omega arith; count = refl; text = refl; inside = l }

    module _ {k from end at n rows bytes : ℕ} (w : Passed k from end at n rows bytes) where
      pub passed_more : {next m b : ℕ} → Stand v (Member o k) at end next m b → Passed k from end next (n + 1) (rows + m) (bytes + b)
      passed_more s =
          let f = w.front in
          let g = s.members in
          record {
            front = beside f g;
            many = many_last w.many s.good;
            here = at_as (sym (beside_forms f g)) (at_join (forms f) (forms g) w.here s.here w.place);
            place = omega (arith, beside_length f g, w.place, s.end);
            count = omega (arith, beside_size f g, w.count, s.rows);
            text = omega (arith, beside_text f g, w.text, s.text);
            inside = s.below;
          }

      -- no member stands here: so none in all
      pub passed_bad : at < end → Tests v (Member o k) at end None → (m : ℕ) (ts : Forest) → Many (Member o k) m ts → At v from (forms ts) → from + length (forms ts) ≡ end → ⊥
      unfolding content
      passed_bad l f m ts x h t = by z.members z.many z.here z.total
        where
          z : Rest k at end
          z = rest_of w.many x w.here h t at w.place w.inside

          by : {j : ℕ} (us : Forest) → Many (Member o k) j us → At v at (forms us) → at + length (forms us) ≡ end → ⊥
          by us many_none g e = omega arith
          by us (many_more {ts = fs} {us = vs} q y i) g e = f fs q (front_at fs vs i g) (omega (arith, whole_length fs vs i g))

  -- WHAT A WALK OVER ALL MEMBERS TELLS
  abbrev pub Went : Bool → ℕ → ℕ → ℕ → Option Walked → Type 0
  Went o k from end (Some w) = Passed o k from end end w.to w.rows w.bytes
  Went o k from end None = (m : ℕ) (ts : Forest) → Many (Member o k) m ts → At v from (forms ts) → from + length (forms ts) ≡ end → ⊥
