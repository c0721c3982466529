-- Hex pairs: laws for each return, and for the loop over them.
use mathlib.Core.Path.{◌≡◌, refl, sym, ap, ◌∙◌}
use mathlib.Core.List.{List, [], ◌∷◌}
use mathlib.Core.Bool.{Bool, true, false}
use Prim.Native.Nat.{ℕ, suc, ◌+◌, ◌*◌, ◌^◌, ◌<◌}
use native.Mathlib.Numerals.{add-one}
use native.Mathlib.Omega.{arith}
use lib.ListN.{drop, set}
use borrow.Author.Rules.{rules}
use Rattle.exact.specs.Class.{pick, or, and, is, only, only_no, only_yes}
use Rattle.exact.specs.Out.{bind, fmap}
use Rattle.exact.specs.Lang.{ret_r, byte_r}
use Rattle.exact.specs.Comb.{seq_r}
use Rattle.exact.specs.Block.{lead}
use Rattle.exact.specs.Place.{peek, There, byte_there, none_there, there, byte_peek, alt_peek, byte_is}
use Rattle.language.specs.Strings.{lowhex, hexval}
use Rattle.language.specs.Tree.{unescaped}
use Rattle.rooms.specs.Told.{spot}
use Rattle.rooms.specs.declared.Cursor.{Cursor}
use Rattle.rooms.specs.Contract.{Ans}
use Rattle.std.specs.declared.option.Option.TheVariants.{None, Some}
use Rattle.std.specs.declared.result.Result.TheVariants.{Err, Ok}
use Rattle.rooms.specs.Contract.{onward, Takes}
use Rattle.rooms.specs.Laws.{take_next, take_byte, take_place, take_other}
use Rattle.characters.specs.declared.Reading.{Reading}
use Rattle.strings.specs.Contract.{Digit}
use Rattle.strings.specs.Bytes.{pair_r, further_r, digit_next, pairs_on}
use Rattle.strings.specs.Contract.{Digited, DigitRead, Texts}
use Rattle.strings.specs.Hexes.{pair_text_r, Furthers}
use Rattle.strings.proofs.DigitLaws.{digited, undigited, class_in}
use Rattle.strings.proofs.TextLaws.{text_adds, text_refused, spelling}

-- ---- a digit at a place, by a test of its byte

module _ (doc : List ℕ) (at b : ℕ) (x : Bool) (look : b ≡ peek doc at) (k : x ≡ is lowhex b) where
  pub low_is : x ≡ true → is lowhex (peek doc at) ≡ true
  low_is e = rw (← look) (sym k ∙ e)

  pub low_none : x ≡ false → is lowhex (peek doc at) ≡ false
  low_none e = rw (← look) (sym k ∙ e)

-- ---- a pair

module _ (doc : List ℕ) (c : Cursor) (h : ℕ) (x : Digited lowhex doc c.at h (c.at + 1)) where
  abbrev Pair : Ans → List ℕ → List ℕ → Type 0
  Pair a T T' = Texts doc c (pair_text_r c.at (drop c.at doc)) a T T'

  pub pair_times : 16 * h < 2 ^ 32
  pair_times = omega (arith, x.small)

  module _ (s : Digit) (low : DigitRead lowhex doc (c.at + 1) s) where
    first : pair_r c.at (drop c.at doc) ≡ bind (byte_r (is lowhex) (c.at + 1) (drop (c.at + 1) doc)) (λ b. ret_r (16 * h + hexval b))
    unfolding pair_r
    first = rw (byte_peek doc c.at lowhex refl, x.digit, x.value, add-one) refl

    pub pair_half : (T : List ℕ) → s ≡ None → Pair (Err (c.at + 1)) T T
    pair_half T k = text_refused doc c _ T T (c.at + 1) (ap (fmap (λ p. unescaped (p ∷ []))) first ∙ rw (byte_peek doc (c.at + 1) lowhex refl, undigited lowhex doc (c.at + 1) s low k) refl)

    module _ (l : ℕ) (n : Reading) (k : s ≡ Some (l, n)) where
      y : Digited lowhex doc (c.at + 1) l n.at
      y = digited lowhex doc (c.at + 1) s low l n k

      pub pair_byte : 16 * h + l < 256
      pair_byte = omega (arith, x.small, y.small)

      pub pair_fits : 16 * h + l < 2 ^ 32
      pair_fits = omega (arith, pair_byte)

      pub pair_read : (x : ℕ) (T T' : List ℕ) → x ≡ spot c.text → T' ≡ set T x (16 * h + l) → Pair (Ok (record { at = n.at; row = c.row; text = c.text + 1 })) T T'
      pair_read p T T' q t =
          let i = class_in lowhex doc (c.at + 1) refl y.digit in
          let z : suc (c.at + 1) ≡ n.at = omega (arith, y.next) in
          spelling doc c _ T T' (unescaped ((16 * h + l) ∷ [])) n.at (c.text + 1)
          (ap (fmap (λ p. unescaped (p ∷ []))) first ∙ rw (byte_peek doc (c.at + 1) lowhex refl, y.digit, y.value, z) refl)
          (omega (arith, y.next)) (omega (arith, y.next)) (omega arith) (omega (arith, y.next)) (omega (arith, y.next)) (rw q at t)

pub ruleset pairing = (pair_times, pair_half, pair_byte, pair_fits, pair_read, text_adds, rules)

-- ---- what follows a pair

next_peek : (doc : List ℕ) (at : ℕ) → digit_next (drop at doc) ≡ is lowhex (peek doc at)
next_peek doc at = by (there doc at)
  where
    by : There doc at → digit_next (drop at doc) ≡ is lowhex (peek doc at)
    by (byte_there p) = ap digit_next p
    by (none_there p q) = ap digit_next p ∙ sym (ap (is lowhex) q)

on_peek : (doc : List ℕ) (at : ℕ) → pairs_on (drop at doc) ≡ or (is lowhex (peek doc at)) (and (is (only 32) (peek doc at)) (is lowhex (peek doc (at + 1))))
on_peek doc at = by (there doc at)
  where
    by : There doc at → pairs_on (drop at doc) ≡ or (is lowhex (peek doc at)) (and (is (only 32) (peek doc at)) (is lowhex (peek doc (at + 1))))
    by (byte_there p) = ap pairs_on p ∙ rw (next_peek doc (suc at), add-one) refl
    by (none_there p q) = ap pairs_on p ∙ rw q refl

pub lead_peek : (doc : List ℕ) (at : ℕ) → lead 1 (drop at doc) ≡ pick (is (only 32) (peek doc at)) 1 0
lead_peek doc at = by (there doc at)
  where
    by : There doc at → lead 1 (drop at doc) ≡ pick (is (only 32) (peek doc at)) 1 0
    by (byte_there p) = ap (lead 1) p
    by (none_there p q) = ap (lead 1) p ∙ rw q refl

module _ (doc : List ℕ) (c : Cursor) (b : ℕ) (v : Bool) (look : b ≡ peek doc c.at) (a : v ≡ is lowhex b) where
  pub further_here : v ≡ true → Furthers doc c (Ok c)
  unfolding Furthers further_r
  further_here l =
      let x = low_is doc c.at b v look a l in
      record {
        on = on_peek doc c.at ∙ rw x refl;
        is = alt_peek doc c.at lowhex refl pair_r (seq_r (byte_r (is (only 32))) λ _. pair_r) ∙ rw x refl;
        from = omega arith;
        inside = class_in lowhex doc c.at refl x;
        digit = x;
        row = refl;
        text = refl;
      }

  pub stops_here : v ≡ false → (t : Ans) → Takes doc c 32 t → (p : ℕ) → t ≡ Err p → Furthers doc c (Err p)
  unfolding Furthers
  stops_here d t h p e =
      let x = low_none doc c.at b v look a d in
      let z : is (only 32) (peek doc c.at) ≡ false = only_no 32 (peek doc c.at) (take_other doc c 32 t h p e) in
      record { off = on_peek doc c.at ∙ rw (x, z) refl; is = rw (lead_peek doc c.at, z) (take_place doc c 32 t h p e ∙ omega arith) }

-- .. behind a space
module _ (doc : List ℕ) (c : Cursor) (t : Ans) (h : Takes doc c 32 t) (n : Cursor) (e : t ≡ Ok n) (g : ℕ) (f : Bool) (look-behind : g ≡ peek doc n.at) (k : f ≡ is lowhex g) where
  step : n ≡ onward c 1
  step = take_next doc c 32 t h n e

  blank : is (only 32) (peek doc c.at) ≡ true
  blank = only_yes 32 (peek doc c.at) (sym (take_byte doc c 32 t h n e))

  dark : is lowhex (peek doc c.at) ≡ false
  dark = ap (is lowhex) (sym (take_byte doc c 32 t h n e))

  next_at : n.at ≡ c.at + 1
  next_at = ap (λ (z : Cursor). z.at) step

  pub further_behind : f ≡ true → Furthers doc c (Ok n)
  unfolding Furthers further_r
  further_behind l =
      let x = low_is doc n.at g f look-behind k l in
      let w : is lowhex (peek doc (c.at + 1)) ≡ true = rw (← next_at) x in
      record {
        on = on_peek doc c.at ∙ rw (dark, blank, w) refl;
        is =
            alt_peek doc c.at lowhex refl pair_r (seq_r (byte_r (is (only 32))) λ _. pair_r)
            ∙ rw (dark, byte_is doc c.at 32 32 (omega arith) (take_byte doc c 32 t h n e) refl, next_at) refl;
        from = omega (arith, next_at);
        inside = class_in lowhex doc n.at refl x;
        digit = x;
        row = ap (λ (z : Cursor). z.row) step;
        text = ap (λ (z : Cursor). z.text) step;
      }

  pub stops_behind : f ≡ false → Furthers doc c (Err n.at)
  unfolding Furthers
  stops_behind l =
      let x = low_none doc n.at g f look-behind k l in
      let w : is lowhex (peek doc (c.at + 1)) ≡ false = rw (← next_at) x in
      record { off = on_peek doc c.at ∙ rw (dark, blank, w) refl; is = rw (lead_peek doc c.at, blank) next_at }

pub ruleset furthering = (further_here, stops_here, further_behind, stops_behind, rules)
