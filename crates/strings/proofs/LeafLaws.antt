-- A text and its row: laws for the returns of strings, keys and inline bytes.
use mathlib.Core.Path.{◌≡◌, refl, ap, ◌∙◌}
use mathlib.Core.List.{List}
use Prim.Native.Nat.{ℕ, ◌+◌, ◌*◌, ◌<◌}
use native.Mathlib.Omega.{arith}
use lib.ListN.{drop}
use lib.Seq.{sets}
use borrow.Author.Rules.{rules}
use Rattle.exact.specs.Out.{Out, bind, Reader}
use Rattle.exact.specs.Lang.{ret_r}
use Rattle.exact.specs.Place.{peek, alt_is, alt_not}
use Rattle.language.specs.Kind.{TRUE, STRING}
use Rattle.language.specs.Tree.{unlined, Decoded, leaf, width, row_list}
use Rattle.rooms.specs.Told.{spot, told}
use Rattle.rooms.specs.declared.Cursor.{Cursor}
use Rattle.rooms.specs.declared.Words.{Words}
use Rattle.rooms.specs.Contract.{Ans}
use Rattle.std.specs.declared.result.Result.TheVariants.{Err, Ok}
use Rattle.rooms.specs.Contract.{Ready, Answers}
use Rattle.rooms.specs.Laws.{refused, took, leaf_text}
use Rattle.characters.specs.Plains.{Quote, double, single}
use Rattle.strings.specs.Spans.{spanned_r}
use Rattle.strings.specs.Quoted.{double_r, single_r, quoted_r, string_r}
use Rattle.strings.specs.Inside.{text_r, Close, Leafed}
use Rattle.strings.specs.Contract.{Texts}
use Rattle.strings.proofs.TextLaws.{text_taken, text_refusal, spelt_spot}

-- ---- either quote

pub is_double : Quote 34
is_double = double

pub is_single : Quote 39
is_single = single

module _ (doc : List ℕ) (c : Cursor) (b : ℕ) (look : b ≡ peek doc c.at) (a : Ans) (T T' : List ℕ) where
  pub via_double_quote : b ≡ 34 → Texts doc c (text_r 34 c.at (drop c.at doc)) a T T' → Texts doc c (quoted_r c.at (drop c.at doc)) a T T'
  unfolding quoted_r
  via_double_quote e h = rw (alt_is doc c.at 34 b (omega arith) look double_r single_r e) h

  pub via_single_quote : (b ≡ 34 → ⊥) → Texts doc c (text_r 39 c.at (drop c.at doc)) a T T' → Texts doc c (quoted_r c.at (drop c.at doc)) a T T'
  unfolding quoted_r
  via_single_quote e h = rw (alt_not doc c.at 34 b (omega arith) look double_r single_r e) h

pub ruleset quotes = (is_double, is_single, via_double_quote, via_single_quote, rules)

-- ---- a row

pub leafed : (c n : Cursor) (p k : ℕ) (x y : ℕ) (w : Words) (R R' : List ℕ) → x ≡ spot c.text → y ≡ spot n.text → w ≡ record { kind = k; first = c.at; after = n.at; from = x; to = y; parent = p; next = c.row + 1 }
    → R' ≡ sets R (width * c.row) (row_list unlined w.kind w.first w.after w.from w.to w.parent w.next)
    → Leafed c n p k (record { at = n.at; row = c.row + 1; text = n.text }) R R'
leafed c n p k x y w R R' a b e h =
    record { cursor = refl; table = rw (e, a, b) at h }

pub ruleset leaves = (leafed, rules)

-- ---- a text with its span and its row

pub text_close : (doc : List ℕ) (c n : Cursor) (o : Out Decoded) (a : Ans) (T T' : List ℕ) → Ready doc c → a ≡ Ok n → Texts doc c o a T T' → Close c n
text_close doc c n o a T T' ready e h =
    let t = text_taken doc c o T T' a n e h in
    record {
      from = omega (arith, ready.small, ready.inside);
      to_at = omega (arith, ready.small, t.spelt.inside);
      row = omega (arith, ready.small, ready.inside, ready.few_rows);
      text = omega (arith, ready.small, ready.inside, ready.few_text);
      to_text = omega (arith, ready.small, t.spelt.inside, spelt_spot doc c n t.value T T' ready t.spelt, t.spelt.few, ready.few_text);
    }

module _ (k : ℕ) (r : Reader Decoded) (doc : List ℕ) (c : Cursor) (p : ℕ) (a : Ans) (T T' : List ℕ) (h : Texts doc c (r c.at (drop c.at doc)) a T T') where
  pub spanned_bad : (R R' : List ℕ) (q : ℕ) → a ≡ Err q → Answers doc c p (spanned_r k r c.at (drop c.at doc)) (Err q) R R' T T'
  unfolding spanned_r
  spanned_bad R R' q e = refused doc c p _ R R' T T' q (ap (λ o. bind o (λ s e. ret_r (leaf k c.at e s) e)) (text_refusal doc c _ T T' a q e h))

  pub spanned_read : (R R' : List ℕ) (n m : Cursor) → Ready doc c → TRUE < k → a ≡ Ok n → Leafed c n p k m R R' → Answers doc c p (spanned_r k r c.at (drop c.at doc)) (Ok m) R R' T T'
  unfolding spanned_r
  spanned_read R R' n m ready l e f =
      let t = text_taken doc c _ T T' a n e h in
      let g : m ≡ record { at = n.at; row = c.row + 1; text = c.text + told t.value } = f.cursor ∙ ap (λ x. record { at = n.at; row = c.row + 1; text = x }) t.spelt.end in
      took doc c p _ R R' T T' m
      (rw g
      (leaf_text doc c p _ k n.at 0 t.spelt.ahead t.spelt.inside R R' T T' t.value ready
      (ap (λ o. bind o (λ s e. ret_r (leaf k c.at e s) e)) t.is)
      l t.spelt.few t.spelt.scant (rw (spelt_spot doc c n t.value T T' ready t.spelt) at f.table) t.spelt.room))

module _ (doc : List ℕ) (c : Cursor) (p : ℕ) (a : Ans) (T T' : List ℕ) (h : Texts doc c (quoted_r c.at (drop c.at doc)) a T T') where
  pub string_not : (R R' : List ℕ) (q : ℕ) → a ≡ Err q → Answers doc c p (string_r c.at (drop c.at doc)) (Err q) R R' T T'
  unfolding string_r
  string_not R R' q e = spanned_bad STRING quoted_r doc c p a T T' h R R' q e

  pub string_taken : (R R' : List ℕ) (n m : Cursor) → Ready doc c → a ≡ Ok n → Leafed c n p STRING m R R' → Answers doc c p (string_r c.at (drop c.at doc)) (Ok m) R R' T T'
  unfolding string_r
  string_taken R R' n m ready e f = spanned_read STRING quoted_r doc c p a T T' h R R' n m ready (omega arith) e f

pub ruleset values = (text_close, string_not, string_taken, rules)
