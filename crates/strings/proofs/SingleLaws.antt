-- A backslash in single quotes, and what stands behind it: laws for each return.
use mathlib.Core.Path.{◌≡◌, refl, sym, ap, ◌∙◌}
use mathlib.Core.List.{List, [], ◌∷◌}
use mathlib.Core.Logic.{◌⊎◌, inl, inr, ⊎_elim}
use mathlib.Core.Bool.{true}
use Prim.Native.Nat.{ℕ, suc, ◌+◌, ◌-◌, ◌≤◌, ◌<◌}
use native.Mathlib.Numerals.{add-one}
use native.Mathlib.Omega.{arith}
use lib.ListN.{length, drop, drop_of_length-le, set}
use lib.Seq.{sets, slice, slice-cons, length-slice}
use borrow.Author.Rules.{rules}
use Rattle.exact.specs.Class.{is}
use Rattle.exact.specs.Place.{peek, byte_peek, alt_peek}
use Rattle.language.specs.Characters.{utf8}
use Rattle.characters.specs.declared.Reading.{Reading}
use Rattle.characters.specs.Reads.{Read}
use Rattle.std.specs.declared.option.Option.TheVariants.{None, Some}
use Rattle.std.specs.declared.result.Result.TheVariants.{Err, Ok}
use Rattle.characters.specs.Plains.{single, plain_of, other}
use Rattle.language.specs.Tree.{unescaped, escaped}
use Rattle.rooms.specs.Told.{ESCAPE, spot}
use Rattle.rooms.specs.declared.Cursor.{Cursor}
use Rattle.rooms.specs.Contract.{Step}
use Rattle.rooms.specs.Contract.{Ans}
use Rattle.rooms.specs.Contract.{ample, Stepped, Takes, Ready}
use Rattle.rooms.specs.Laws.{step_byte, step_next, step_inside, take_next, take_byte}
use Rattle.strings.specs.Quoted.{singled, itself_r, unescaped_r, kept_r, singled_r, single_escape_r}
use Rattle.strings.specs.Inside.{Char, CharAt}
use Rattle.strings.specs.Contract.{Texts}
use Rattle.strings.proofs.TextLaws.{text_fits, escape_fits, escape_adds, text_refused, spelling, front_not, front_is}

-- ---- a backslash, taken

module _ (doc : List ℕ) (c : Cursor) (t : Ans) (h : Takes doc c 92 t) where
  abbrev Kept : Ans → List ℕ → List ℕ → Type 0
  Kept a T T' = Texts doc c (kept_r c.at (drop c.at doc)) a T T'

  abbrev Single : Ans → List ℕ → List ℕ → Type 0
  Single a T T' = Texts doc c (single_escape_r c.at (drop c.at doc)) a T T'

  pub kept_back : (T : List ℕ) (p : ℕ) → t ≡ Err p → Kept (Err p) T T
  kept_back T p e = front_not doc c 92 (omega arith) t h unescaped_r T p e

  pub single_back : (T : List ℕ) (p : ℕ) → t ≡ Err p → Single (Err p) T T
  unfolding single_escape_r
  single_back T p e = front_not doc c 92 (omega arith) t h singled_r T p e

  module _ (n : Cursor) (e : t ≡ Ok n) where
    next : n.at ≡ suc c.at
    next = ap (λ (x : Cursor). x.at) (take_next doc c 92 t h n e) ∙ add-one c.at

    kept_is : kept_r c.at (drop c.at doc) ≡ unescaped_r n.at (drop n.at doc)
    kept_is = front_is doc c 92 (omega arith) t h n e unescaped_r

    single_is : single_escape_r c.at (drop c.at doc) ≡ singled_r n.at (drop n.at doc)
    unfolding single_escape_r
    single_is = front_is doc c 92 (omega arith) t h n e singled_r

    -- ---- it stays as itself, with the character behind it
    module _ (r : Read) (read : CharAt (plain_of 39) doc n.at r) where
      pub kept_none : (T : List ℕ) (p : ℕ) → r ≡ Err p → Kept (Err p) T T
      unfolding CharAt
      kept_none T p z = text_refused doc c _ T T p (kept_is ∙ rw (rw z at read) refl)

      module _ (v : ℕ) (m : Reading) (z : r ≡ Ok (v, m)) where
        here : Char (plain_of 39) doc n.at v m.at
        unfolding CharAt
        here = rw z at read

        kept_ahead : c.at < m.at
        kept_ahead = let w = here.ahead in let y = next in omega arith

        pub kept_from : c.at ≤ m.at
        kept_from = let w = kept_ahead in omega arith

        pub kept_inside : m.at ≤ length doc
        kept_inside = here.inside

        pub kept_small : (x : ℕ) → x ≡ spot c.text → Ready doc c → x + m.at < ample
        kept_small x y ready = let w = here.inside in omega (arith, ready.small, ready.inside, ready.few_text)

        -- both as they stand
        spelt : slice c.at m.at doc ≡ 92 ∷ utf8 v
        spelt =
            let p : slice c.at m.at doc ≡ peek doc c.at ∷ slice (suc c.at) m.at doc = slice-cons c.at m.at doc 256 kept_ahead kept_inside in
            let b : slice (suc c.at) m.at doc ≡ utf8 v = rw next at here.bytes in
            p ∙ rw (← take_byte doc c 92 t h n e, b) refl

        pub kept_read : (x : ℕ) (T T' : List ℕ) → x ≡ spot c.text → T' ≡ sets T x (slice c.at m.at doc)
            → Kept (Ok (record { at = m.at; row = c.row; text = c.text + (m.at - c.at) })) T T'
        kept_read p T T' q x =
            let s : length (slice c.at m.at doc) ≡ m.at - c.at = length-slice c.at m.at doc kept_inside in
            let w = ap length spelt in
            spelling doc c _ T T' (unescaped (92 ∷ utf8 v)) m.at (c.text + (m.at - c.at)) (kept_is ∙ rw here.is refl) kept_ahead kept_inside (omega arith) (omega (arith, kept_ahead)) (omega (arith, kept_ahead)) (rw (← spelt, ← q) x)

    -- ---- the byte behind it decides
    module _ (s : Step) (k : Stepped doc n s) where
      pub single_over : (T : List ℕ) → s ≡ None → Single (Err n.at) T T
      unfolding Stepped
      single_over T z = text_refused doc c _ T T n.at (single_is ∙ ap (singled_r n.at) (drop_of_length-le doc (rw z at k).0))

      module _ (b : ℕ) (m : Cursor) (z : s ≡ Some (b, m)) where
        byte : b ≡ peek doc n.at
        byte = step_byte doc n s k b m z

        pub single_itself : (x : ℕ) (T T' : List ℕ) → (b ≡ 39) ⊎ (b ≡ 92) → x ≡ spot c.text → T' ≡ set T x b → Single (Ok (record { at = m.at; row = c.row; text = c.text + ESCAPE + 1 })) T T'
        single_itself p T T' x q w =
            let y : is singled b ≡ true = ⊎_elim (λ y. rw y refl) (λ y. rw y refl) x in
            let i = step_inside doc n s k b m z in
            let a = next in
            rw (step_next doc n s k b m z)
            (spelling doc c _ T T' (escaped (b ∷ [])) (n.at + 1) (c.text + ESCAPE + 1)
            (single_is ∙ (alt_peek doc n.at singled refl itself_r unescaped_r ∙ rw (byte_peek doc n.at singled refl, ← byte, y, add-one) refl))
            (omega arith) (omega arith) (omega arith) (omega arith) (omega arith) (rw q at w))

        pub single_kept : (a : Ans) (T T' : List ℕ) → ((b ≡ 39) ⊎ (b ≡ 92) → ⊥) → Kept a T T' → Single a T T'
        single_kept a T T' x w =
            let y : singled_r n.at (drop n.at doc) ≡ unescaped_r n.at (drop n.at doc) =
            alt_peek doc n.at singled refl itself_r unescaped_r ∙ rw (← byte, other 39 b (λ y. x (inl y)), other 92 b (λ y. x (inr y))) refl in
            rw (single_is ∙ (y ∙ sym kept_is)) w

pub ruleset keeping = (single, kept_back, kept_none, kept_from, kept_inside, kept_small, kept_read, text_fits, rules)

pub ruleset singles = (single_back, single_over, single_itself, single_kept, escape_fits, escape_adds, rules)
