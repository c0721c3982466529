-- What stands in a string where no plain byte and no quote does: laws for each return.
use mathlib.Core.Path.{◌≡◌, refl, ap, ◌∙◌}
use mathlib.Core.List.{List}
use mathlib.Core.Bool.{false}
use Prim.Native.Nat.{ℕ, ◌+◌, ◌-◌, ◌≤◌, ◌<◌}
use native.Mathlib.Omega.{arith}
use lib.ListN.{length, drop}
use lib.Seq.{sets, slice, length-slice}
use borrow.Author.Rules.{rules}
use borrow.Author.Tests.{le-leb, lt-leb}
use Rattle.exact.specs.Class.{is}
use Rattle.exact.specs.Place.{peek, alt_is, alt_not}
use Rattle.language.specs.Characters.{utf8}
use Rattle.language.specs.Answered.{limit}
use Rattle.utf8.specs.Char.{char_r}
use Rattle.characters.specs.Reads.{Stands, ReadAt}
use Rattle.characters.specs.Plains.{Quote, double, single, plain_of}
use Rattle.characters.specs.declared.Reading.{Reading}
use Rattle.characters.specs.Reads.{Read}
use Rattle.std.specs.declared.result.Result.TheVariants.{Err, Ok}
use Rattle.language.specs.Tree.{unescaped}
use Rattle.exact.specs.Out.{bind}
use Rattle.exact.specs.Lang.{ret_r}
use Rattle.exact.specs.Comb.{map_r}
use Rattle.rooms.specs.Told.{spot}
use Rattle.rooms.specs.declared.Cursor.{Cursor}
use Rattle.rooms.specs.Contract.{Ans}
use Rattle.rooms.specs.Contract.{ample, Ready}
use Rattle.strings.specs.Quoted.{escape_r, single_escape_r}
use Rattle.strings.specs.Inside.{escapes_r, special_r, Special}
use Rattle.strings.specs.Contract.{Texts}
use Rattle.strings.proofs.CleanLaws.{first_byte}
use Rattle.strings.proofs.TextLaws.{text_fits, text_refused, spelling}

-- ---- a character of several bytes

module _ (doc : List ℕ) (at : ℕ) (r : Read) (v : ℕ) (n : Reading) (is-scalar : r ≡ Ok (v, n)) (read : ReadAt doc at r) where
  stands : Stands doc at v n.at
  unfolding ReadAt
  stands = rw is-scalar at read

  pub scalar_from : at ≤ n.at
  scalar_from = let h = stands.ahead in omega arith

  pub scalar_inside : n.at ≤ length doc
  scalar_inside = stands.inside

  pub scalar_small : (x y : ℕ) → x ≡ y → length doc ≤ limit → y ≤ at → x + n.at < ample
  scalar_small x y e l m = let h = stands.ahead in let k = stands.inside in omega arith

module _ (q : ℕ) (doc : List ℕ) (c : Cursor) (ready : Ready doc c) (place : Special q doc c.at) (other : peek doc c.at ≡ 92 → ⊥) where
  abbrev Piece : Ans → List ℕ → List ℕ → Type 0
  Piece a T T' = Texts doc c (special_r q c.at (drop c.at doc)) a T T'

  as_char : special_r q c.at (drop c.at doc) ≡ map_r unescaped (char_r (plain_of q)) c.at (drop c.at doc)
  as_char = alt_not doc c.at 92 (peek doc c.at) (omega arith) refl (escapes_r q) (map_r unescaped (char_r (plain_of q))) other

  module _ (r : Read) (read : ReadAt doc c.at r) where
    pub wide_not : (p : ℕ) (T : List ℕ) → r ≡ Err p → Piece (Err p) T T
    unfolding ReadAt
    wide_not p T e = let h = rw e at read in text_refused doc c _ T T p (as_char ∙ ap (λ o. bind o (λ s. ret_r (unescaped s))) (h (plain_of q)))

    module _ (v : ℕ) (n : Reading) (is-scalar : r ≡ Ok (v, n)) where
      here : Stands doc c.at v n.at
      unfolding ReadAt
      here = rw is-scalar at read

      pub wide_low : (T : List ℕ) → v < 128 → Piece (Err c.at) T T
      wide_low T l =
          let e : is (plain_of q) v ≡ false = rw (← first_byte doc c.at v n.at here (omega arith)) place.dark in
          text_refused doc c _ T T c.at (as_char ∙ rw (here.taken (plain_of q), le-leb v 127 (omega arith), e) refl)

      pub wide_read : (x : ℕ) (T T' : List ℕ) → 128 ≤ v → x ≡ spot c.text → T' ≡ sets T x (slice c.at n.at doc)
          → Piece (Ok (record { at = n.at; row = c.row; text = c.text + (n.at - c.at) })) T T'
      wide_read p T T' l z t =
          let s : length (slice c.at n.at doc) ≡ n.at - c.at = length-slice c.at n.at doc here.inside in
          let w = ap length here.bytes in
          spelling doc c _ T T' (unescaped (utf8 v)) n.at (c.text + (n.at - c.at))
          (as_char ∙ rw (here.taken (plain_of q), lt-leb v 127 (omega arith), here.allowed (omega arith)) refl)
          here.ahead here.inside (omega arith) (omega (arith, here.ahead)) (omega (arith, here.ahead)) (rw (← here.bytes, ← z) t)

-- ---- an escape

single_quote : {q : ℕ} → Quote q → (q ≡ 34 → ⊥) → q ≡ 39
single_quote double n = absurd (n refl)
single_quote single n = refl

module _ (q : ℕ) (doc : List ℕ) (c : Cursor) (b : ℕ) (look : b ≡ peek doc c.at) (a : Ans) (T T' : List ℕ) where
  pub not_back : (b ≡ 92 → ⊥) → peek doc c.at ≡ 92 → ⊥
  not_back n e = n (look ∙ e)

  pub via_double : b ≡ 92 → q ≡ 34 → Texts doc c (escape_r c.at (drop c.at doc)) a T T' → Texts doc c (special_r q c.at (drop c.at doc)) a T T'
  via_double e k h = rw (alt_is doc c.at 92 b (omega arith) look (escapes_r q) (map_r unescaped (char_r (plain_of q))) e, k) h

  pub via_single : b ≡ 92 → Quote q → (q ≡ 34 → ⊥) → Texts doc c (single_escape_r c.at (drop c.at doc)) a T T' → Texts doc c (special_r q c.at (drop c.at doc)) a T T'
  via_single e k n h = rw (alt_is doc c.at 92 b (omega arith) look (escapes_r q) (map_r unescaped (char_r (plain_of q))) e, single_quote k n) h

pub ruleset specials = (scalar_from, scalar_inside, scalar_small, wide_not, wide_low, wide_read, text_fits, not_back, via_double, via_single, rules)
