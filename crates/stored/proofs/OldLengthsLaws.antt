-- HOW LONG A FORM OF TICKET 4 IS: three bytes for each row, and the text. Where one field holds it, no content is wide, and it is the form of today (`short_old`, `short_now`). Assumes nothing.
use Rattle.std.specs.Prelude.{◌≡◌, refl, List, [], ◌++◌, ℕ, ◌+◌, ◌*◌, ◌≤◌, ◌<◌, length}
use Rattle.std.proofs.Common.{ap, arith, length-append}
use Rattle.language.specs.Kind.{KEY, has_text, pick}
use Rattle.language.specs.Tree.{Decoded, Tree, leaf, node, Forest, none, more, size, sizes, text_of, texts_of}
use Rattle.language.specs.Alike.{unspan, unspans, Alike}
use Rattle.shaped.specs.Shaped.{Scalar, is_null, is_false, is_true, is_an_integer, is_float, is_string, is_bytes, Shaped, shaped_leaf, shaped_array, shaped_object, Elements, elements_none, elements_more, Pairs, pairs_none, pairs_more}
use Rattle.stored.specs.Form as now
use Rattle.stored.specs.Form.{head, widest}
use Rattle.stored.specs.Lengths as lengths
use Rattle.stored.proofs.LengthsLaws as lengths_laws
use Rattle.stored.specs.Old.{content, forms, form, placed, placeds, Wide, wide_here, wide_below, Wides, wide_first, wide_later}
use Rattle.stored.proofs.OldFormsLaws.{old_form}
use Rattle.stored.specs.OldLengths.{scalar_text_lem}

pub forms_length : (t : Tree) (ts : Forest) → length (forms (more t ts)) ≡ head + length (content t) + length (forms ts)
unfolding content
forms_length t ts = omega (arith, length-append (content t) (forms ts))

mutual
  unfolding content size text_of

  pub content_length : {k : ℕ} {t : Tree} → Shaped k t → head + length (content t) ≡ head * size t + length (text_of t)
  content_length (shaped_leaf x) = let h = ap length (scalar_text_lem x) in omega arith
  content_length (shaped_array x) = let e = elements_length x in omega arith
  content_length (shaped_object x) = let e = pairs_length x in omega arith

  pub elements_length : {k n : ℕ} {ts : Forest} → Elements k n ts → length (forms ts) ≡ head * sizes ts + length (texts_of ts)
  elements_length elements_none = refl
  elements_length (elements_more {t = t} {ts = ts} x y) =
      let e = content_length x in
      let f = elements_length y in
      omega (arith, forms_length t ts, length-append (text_of t) (texts_of ts))

  pub pairs_length : {k n : ℕ} {ts : Forest} → Pairs k n ts → length (forms ts) ≡ head * sizes ts + length (texts_of ts)
  pairs_length pairs_none = refl
  pairs_length (pairs_more {a = a} {e = e} {s = s} {v = v} {ts = ts} x y z) =
      let i = content_length y in
      let j = pairs_length z in
      omega (arith, forms_length (leaf KEY a e s) (more v ts), forms_length v ts, length-append s.bytes (text_of v ++ texts_of ts), length-append (text_of v) (texts_of ts))

pub form_length : {k : ℕ} {t : Tree} → Shaped k t → length (form t) ≡ head * size t + length (text_of t)
form_length x = let e = content_length x in omega arith

mutual
  unfolding content

  pub wide_over : {t : Tree} → Wide t → widest < length (content t)
  wide_over (wide_here h) = h
  wide_over (wide_below h) = wides_over h

  wides_over : {ts : Forest} → Wides ts → widest < length (forms ts)
  wides_over (wide_first {t = t} {ts = ts} h) = let x = wide_over h in omega (arith, forms_length t ts)
  wides_over (wide_later {t = t} {ts = ts} h) = let x = wides_over h in omega (arith, forms_length t ts)

pub content_narrow : (t : Tree) → length (content t) ≤ widest → Wide t → ⊥
content_narrow t l w = let h = wide_over w in omega arith

-- THE FORM OF TODAY, where one field holds it; and back
pub short_old : (t : Tree) → length (form t) ≤ head + widest → now.form t ≡ form t
short_old t l = old_form t (content_narrow t (omega arith))

mutual
  unfolding content now.content

  content_least : (t : Tree) → length (content t) ≤ length (now.content t)
  content_least (leaf k a e s) = omega arith
  content_least (node k a e c ts) = forms_least ts

  forms_least : (ts : Forest) → length (forms ts) ≤ length (now.forms ts)
  forms_least none = omega arith
  forms_least (more t ts) = let h = content_least t in let i = forms_least ts in omega (arith, forms_length t ts, lengths_laws.forms_length t ts, lengths_laws.form_longer t)

pub short_now : (t : Tree) → length (now.form t) ≤ head + widest → now.form t ≡ form t
short_now t l = short_old t (let h = content_least t in let i = lengths_laws.form_longer t in omega arith)
