-- MEMBERS BEHIND MEMBERS in a content: those passed from one place to another and from there on are passed in all (`passed_both`), and where none stand from there on, none stand in all (`passed_stuck`). Assumes nothing.
use Rattle.std.specs.Prelude.{◌≡◌, refl, List, Bool, ℕ, suc, ◌+◌, ◌*◌, ◌≤◌, ◌<◌, length}
use Rattle.std.proofs.Common.{sym, ap, subst, ◌∙◌, arith, length-append}
use Rattle.language.specs.Tree.{Forest, none, more, size, sizes, text_of, texts_of}
use Rattle.shaped.specs.Beside.{beside, beside_size}
use Rattle.stored.specs.Form.{head, content, forms}
use Rattle.stored.proofs.LengthsLaws.{form_least, forms_length, form_longer}
use Rattle.stored.specs.Bytes.{at_as, at_join}
use Rattle.sound.specs.Members.{is_a_key, Member, pair, element, Many, many_none, many_more, some_member}
use Rattle.std.specs.declared.option.Option.TheVariants.{None}
use Rattle.wide.specs.Walk.{beside_forms, rest_of, Passed, Went}

beside_length : (ts us : Forest) → length (forms (beside ts us)) ≡ length (forms ts) + length (forms us)
beside_length ts us = ap length (beside_forms ts us) ∙ length-append (forms ts) (forms us)

beside_text : (ts us : Forest) → length (texts_of (beside ts us)) ≡ length (texts_of ts) + length (texts_of us)
unfolding beside texts_of
beside_text none us = omega arith
beside_text (more t ts) us = let e = beside_text ts us in omega (arith, length-append (text_of t) (texts_of (beside ts us)), length-append (text_of t) (texts_of ts))

beside_beside : (ts us vs : Forest) → beside (beside ts us) vs ≡ beside ts (beside us vs)
unfolding beside
beside_beside none us vs = refl
beside_beside (more t ts) us vs = ap (more t) (beside_beside ts us vs)

many_both : {Q : Forest → Type 0} {n m : ℕ} {ts us : Forest} → Many Q n ts → Many Q m us → Many Q (n + m) (beside ts us)
unfolding beside
many_both {Q} {m = m} {us = us} many_none y = subst (λ (i : ℕ). Many Q i us) (let e : m ≡ 0 + m = omega arith in e) y
many_both {Q} {n = suc n} {m = m} {us = us} (many_more {ts = ts} {us = ws} {vs = vs} q x e) y =
    subst (λ (i : ℕ). Many Q i (beside vs us)) (let f : suc (n + m) ≡ suc n + m = omega arith in f) (many_more q (many_both x y) (ap (λ (f : Forest). beside f us) e ∙ beside_beside ts ws us))

-- a member has no fewer bytes than heads of its rows and text
pub member_least : {o : Bool} {k : ℕ} {ts : Forest} → Member o k ts → head * sizes ts + length (texts_of ts) ≤ length (forms ts)
unfolding content size text_of
member_least (pair {t = t} {v = v} (is_a_key x) y) =
    omega (arith, form_least y.shaped, form_longer t, forms_length t (more v none), forms_length v none, length-append (text_of t) (texts_of (more v none)), length-append (text_of v) (texts_of none))
member_least (element {t = t} x) = omega (arith, form_least x.shaped, forms_length t none, length-append (text_of t) (texts_of none))

pub member_some : {o : Bool} {k : ℕ} {ts : Forest} → Member o k ts → 0 < length (forms ts)
member_some q = omega (arith, member_least q, some_member q)

pub many_least : (o : Bool) {k n : ℕ} {ts : Forest} → Many (Member o k) n ts → head * sizes ts + length (texts_of ts) ≤ length (forms ts)
unfolding content sizes texts_of
many_least o many_none = omega arith
many_least o (many_more {ts = ts} {us = us} q m e) =
    omega (arith, member_least q, many_least o m, ap sizes e, ap length (ap texts_of e), ap length (ap forms e), beside_size ts us, beside_text ts us, beside_length ts us)

module _ (v : List ℕ) (o : Bool) {k from end at n rows bytes : ℕ} (w : Passed v o k from end at n rows bytes) where
  pub passed_both : {e m i b : ℕ} → Passed v o k at end e m i b → Passed v o k from end e (n + m) (rows + i) (bytes + b)
  passed_both s =
      let f = w.front in
      let g = s.front in
      record {
        front = beside f g;
        many = many_both w.many s.many;
        here = at_as (sym (beside_forms f g)) (at_join (forms f) (forms g) w.here s.here w.place);
        place = omega (arith, beside_length f g, w.place, s.place);
        count = omega (arith, beside_size f g, w.count, s.count);
        text = omega (arith, beside_text f g, w.text, s.text);
        inside = s.inside;
      }

  pub passed_stuck : Went v o k at end None → Went v o k from end None
  passed_stuck f m ts x h t = let z = rest_of v o w.many x w.here h t at w.place w.inside in f z.count z.members z.many z.here z.total
