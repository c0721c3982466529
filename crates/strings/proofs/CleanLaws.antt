-- What a string has as it stands: plain bytes, and characters of several bytes.
use mathlib.Core.Path.{◌≡◌, refl, sym, ap, ◌∙◌}
use mathlib.Core.List.{List, [], ◌∷◌}
use mathlib.Core.Bool.{Bool, true, false}
use Prim.Native.Nat.{ℕ, suc, ◌-◌, ◌≤◌, ◌<◌}
use native.Mathlib.Omega.{arith}
use native.Mathlib.Decide.{dec_le}
use lib.ListN.{length, drop, drop_of_length-le}
use lib.Seq.{slice, slice-cons, slice_empty, drop-cons}
use borrow.Author.Rules.{rules}
use borrow.Author.Tests.{le-leb, lt-leb}
use Rattle.exact.specs.Class.{Class, is, only, sub, apart}
use Rattle.exact.specs.Out.{ok, bad, bind, fmap, Tame}
use Rattle.exact.specs.Place.{peek, peek_cons, get_d_any, alt_not, slice_join}
use Rattle.language.specs.Characters.{ascii, utf8, character}
use Rattle.utf8.specs.Char.{char_r, char_s}
use Rattle.characters.specs.declared.Reading.{Reading}
use Rattle.characters.specs.Reads.{Took}
use Rattle.std.specs.declared.option.Option.TheVariants.{None, Some}
use Rattle.std.specs.declared.result.Result.TheVariants.{Err, Ok}
use Rattle.characters.specs.Reads.{Read}
use Rattle.characters.specs.Reads.{ByteRead, byte_inside, byte_there, byte_next, Stands, ReadAt}
use Rattle.characters.specs.Going.{low_stands}
use Rattle.characters.specs.Plains.{Quote, double, single, plain_of, RunTo}
use Rattle.language.specs.Tree.{unescaped, ◌then◌}
use Rattle.exact.specs.Comb.{map_r}
use Rattle.exact.specs.Lang.{ret_r}
use Rattle.strings.specs.Joining.{then_none, then_join}
use Rattle.strings.specs.Plain.{char_plain, char_none}
use Rattle.strings.specs.Quoted.{piece_s, escape_ll, single_escape_ll}
use Rattle.strings.specs.Rest.{rest_run, rest_at}
use Rattle.rooms.specs.declared.Cursor.{Cursor}
use Rattle.rooms.specs.Contract.{Ready}
use Rattle.strings.specs.Inside.{escapes_r, left_r, special_r, Char, CharAt, CleanUpto, CleanTo, Copied}
use Rattle.strings.proofs.DigitLaws.{class_in}
use Rattle.strings.proofs.TextLaws.{copied, text_fits}

-- ---- a character as it stands

-- the first byte of one below 128
pub first_byte : (doc : List ℕ) (at v n : ℕ) → Stands doc at v n → v ≤ 127 → peek doc at ≡ v
first_byte doc at v n s l =
    let p : slice at n doc ≡ peek doc at ∷ slice (suc at) n doc = slice-cons at n doc 256 s.ahead s.inside in
    let u : utf8 v ≡ v ∷ [] = rw (le-leb v 127 l) refl in
    let w = s.bytes in
    cc

module _ (c : Class) (doc : List ℕ) (at v n : ℕ) (s : Stands doc at v n) where
  pub stands_char : character c v ≡ true → Char c doc at v n
  stands_char x = record { is = s.taken c ∙ rw x refl; bytes = s.bytes; ahead = s.ahead; inside = s.inside }

  pub stands_not : character c v ≡ false → char_r c at (drop at doc) ≡ bad at
  stands_not x = s.taken c ∙ rw x refl

  -- one of several bytes is of every class
  wide_char : 127 < peek doc at → Char c doc at v n
  wide_char l = by (dec_le v 127)
    where
      by : Dec (v ≤ 127) → Char c doc at v n
      by (yes x) = absurd (let z = first_byte doc at v n s x in omega arith)
      by (no x) = let h : 127 < v = omega arith in stands_char (rw (lt-leb v 127 h) (s.allowed h))

module _ (c : Class) (doc : List ℕ) (at : ℕ) (t : Took) (h : ByteRead doc at t) where
  pub char_over : t ≡ None → CharAt c doc at (Err at)
  unfolding CharAt ByteRead
  char_over e = ap (char_r c at) (drop_of_length-le doc (rw e at h).0)

  module _ (b : ℕ) (m : Reading) (e : t ≡ Some (b, m)) where
    pub char_wide : (r : Read) → 127 < b → ReadAt doc at r → CharAt c doc at r
    unfolding CharAt ReadAt
    char_wide (Ok (v, n)) l s = wide_char c doc at v n.at s (rw (← byte_there doc at t h b m e) l)
    char_wide (Err p) l k = k c

    -- a byte of ASCII
    module _ (low : b ≤ 127) (x : Bool) (k : x ≡ is c b) where
      here : Stands doc at b m.at
      here =
          let i = byte_inside doc at t h b m e in
          rw (byte_next doc at t h b m e) (low_stands doc at b i (byte_there doc at t h b m e ∙ get_d_any doc at 256 0 i) (omega arith))

      pub char_low : x ≡ true → CharAt c doc at (Ok (b, m))
      unfolding CharAt
      char_low z = stands_char c doc at b m.at here (rw (le-leb b 127 low) (sym k ∙ z))

      pub char_other : x ≡ false → CharAt c doc at (Err at)
      unfolding CharAt
      char_other z = stands_not c doc at b m.at here (rw (le-leb b 127 low) (sym k ∙ z))

pub ruleset standing = (char_over, char_wide, char_low, char_other, rules)

-- ---- as many as there are

-- what holds of both quotes
pub record Sides (q : ℕ) : Type 0 where
  pub low : sub (plain_of q) ascii ≡ true
  pub dark : apart (plain_of q) (only 92) ≡ true
  pub shut : apart (only q) (piece_s (plain_of q)).first ≡ true
  pub small : q < 256
  pub ending : is (plain_of q) 256 ≡ false
  pub no_back : is (char_s (plain_of q)).first 92 ≡ false
  pub no_quote : is (char_s (plain_of q)).first q ≡ false
  pub tame : Tame 1 (escapes_r q)

pub sides : {q : ℕ} → Quote q → Sides q
sides double =
    record { low = refl; dark = refl; shut = refl; small = omega arith; ending = refl; no_back = refl; no_quote = refl; tame = escape_ll.exact.moves }
sides single =
    record { low = refl; dark = refl; shut = refl; small = omega arith; ending = refl; no_back = refl; no_quote = refl; tame = single_escape_ll.exact.moves }

module _ (q : ℕ) (doc : List ℕ) (quote : Quote q) where
  -- the bytes from `at` up to e are read as they stand
  abbrev As : ℕ → ℕ → Type 0
  As at e = left_r q at (drop at doc) ≡ fmap (unescaped (slice at e doc) then◌) (left_r q e (drop e doc))

  as_join : (at e f : ℕ) → at ≤ e → e ≤ f → As at e → As e f → As at f
  as_join at e f h k x y =
      x ∙ (ap (fmap (unescaped (slice at e doc) then◌)) y ∙ (then_join (unescaped (slice at e doc)) (unescaped (slice e f doc)) (left_r q f (drop f doc)) ∙ ap (λ v. fmap (unescaped v then◌) (left_r q f (drop f doc))) (slice_join at e f doc h k)))

  as_run : (at e : ℕ) → RunTo (plain_of q) doc at e → As at e
  as_run at e r = rw r.is (rest_run q (escapes_r q) (plain_of q) (sides quote).tame (sides quote).low (sides quote).dark doc at)

  -- a character of the class begins with none of the other bytes
  begins_not : (e v n b : ℕ) → Char (plain_of q) doc e v n → b < 256 → is (char_s (plain_of q)).first b ≡ false → peek doc e ≡ b → ⊥
  begins_not e v n b w l x z =
      let p : drop e doc ≡ b ∷ drop (suc e) doc = peek_cons doc e b (sym z) l in
      let k : char_r (plain_of q) e (drop e doc) ≡ bad e = ap (char_r (plain_of q) e) p ∙ char_none (plain_of q) e b (drop (suc e) doc) x in
      let y = w.is in
      let o : ◌≡◌ {A = ℕ} 0 1 = cc in
      omega arith

  as_char : (e v n : ℕ) → Char (plain_of q) doc e v n → As e n
  as_char e v n w =
      let o : special_r q e (drop e doc) ≡ ok (unescaped (utf8 v)) n (drop n doc) =
      alt_not doc e 92 (peek doc e) (omega arith) refl (escapes_r q) (map_r unescaped (char_r (plain_of q))) (begins_not e v n 92 w (omega arith) (sides quote).no_back)
      ∙ ap (λ r. bind r (λ s. ret_r (unescaped s))) w.is in
      rest_at q (escapes_r q) (plain_of q) (sides quote).tame doc e (begins_not e v n q w (sides quote).small (sides quote).no_quote)
      ∙ (ap (λ r. bind r (λ v a t. fmap (v then◌) (left_r q a t))) o ∙ ap (λ v. fmap (unescaped v then◌) (left_r q n (drop n doc))) (sym w.bytes))

  pub clean_first : (e : ℕ) → e ≤ length doc → CleanUpto q doc e e
  clean_first e l = record { reads = rw (slice_empty e doc) (sym (then_none (left_r q e (drop e doc)))); from = omega arith; inside = l }

  -- where no character stands, no plain byte does
  plain_not : (e p : ℕ) → char_r (plain_of q) e (drop e doc) ≡ bad p → is (plain_of q) (peek doc e) ≡ false
  plain_not e p h = by (is (plain_of q) (peek doc e)) refl
    where
      by : (x : Bool) → is (plain_of q) (peek doc e) ≡ x → x ≡ false
      by false x = refl
      by true x =
          absurd
          (let i = drop-cons doc e 256 (class_in (plain_of q) doc e (sides quote).ending x) in
          let k : char_r (plain_of q) e (drop e doc) ≡ ok (peek doc e ∷ []) (suc e) (drop (suc e) doc) =
          ap (char_r (plain_of q) e) i ∙ char_plain (plain_of q) (sides quote).low (peek doc e) x e (drop (suc e) doc) in
          let o : ◌≡◌ {A = ℕ} 0 1 = cc in
          omega arith)

  module _ (e : ℕ) (r : Read) (h : CharAt (plain_of q) doc e r) where
    -- behind a run of plain bytes from `at` on, which ends at f
    pub clean_stop : (at f p : ℕ) → RunTo (plain_of q) doc at f → CleanUpto q doc f e → r ≡ Err p → CleanTo q doc at e
    unfolding CharAt
    clean_stop at f p run c z =
        record {
          reads = as_join at f e run.from c.from (as_run at f run) c.reads;
          from = omega (arith, run.from, c.from);
          inside = c.inside;
          dark = plain_not e p (rw z at h);
        }

    module _ (v : ℕ) (m : Reading) (z : r ≡ Ok (v, m)) where
      standing_here : Char (plain_of q) doc e v m.at
      unfolding CharAt
      standing_here = rw z at h

      pub clean_more : (at : ℕ) → CleanUpto q doc at e → CleanUpto q doc at m.at
      clean_more at c =
          let w = standing_here in
          record {
            reads = as_join at e m.at c.from (omega (arith, w.ahead)) c.reads (as_char e v m.at w);
            from = omega (arith, c.from, w.ahead);
            inside = w.inside;
          }

      pub clean_less : length doc - m.at < length doc - e
      clean_less = let w = standing_here in omega (arith, w.ahead, w.inside)

-- ---- where a backslash stands, nothing does as it stands

back_dark : {q : ℕ} → Quote q → is (plain_of q) 92 ≡ false
back_dark double = refl
back_dark single = refl

pub clean_back : (q : ℕ) (doc : List ℕ) (c : Cursor) (b : ℕ) (T : List ℕ) → Quote q → Ready doc c → b ≡ peek doc c.at → b ≡ 92 → Copied (CleanTo q) doc c c T T
clean_back q doc c b T quote ready look e =
    let x = clean_first q doc quote c.at ready.inside in
    record {
      run = record { reads = x.reads; from = x.from; inside = x.inside; dark = rw (← look, e) (back_dark quote) };
      row = refl;
      end = omega arith;
      room = rw (slice_empty c.at doc) refl;
    }

pub ruleset cleaning = (clean_back, copied, text_fits, rules)

pub ruleset cleans = (clean_first, clean_stop, clean_more, clean_less, rules)
