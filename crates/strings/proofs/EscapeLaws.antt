-- What escapes of double quotes have to show at each return, from what taking a byte tells.
use mathlib.Core.Path.{◌≡◌, refl, sym, ◌∙◌}
use mathlib.Core.List.{List, [], ◌∷◌}
use mathlib.Core.Bool.{true}
use Prim.Native.Nat.{ℕ, suc, ◌+◌, ◌<◌, ◌-◌, ◌≤◌, ◌^◌}
use native.Mathlib.Numerals.{add-one}
use native.Mathlib.Omega.{arith}
use lib.ListN.{drop, set}
use borrow.Author.Rules.{rules}
use Rattle.exact.specs.Class.{pick, is, only}
use Rattle.exact.specs.Out.{ok, bad, Reader}
use Rattle.exact.specs.Lang.{ret_r, byte_r}
use Rattle.exact.specs.Answers.{bind_bind, bind_same}
use Rattle.exact.specs.Comb.{seq_r}
use Rattle.exact.specs.Ll.{word_r}
use Rattle.exact.specs.Place.{peek, byte_peek, alt_peek, byte_not}
use Rattle.language.specs.Characters.{utf8}
use Rattle.language.specs.Strings.{lettered, stands_for}
use Rattle.characters.specs.declared.Reading.{Reading}
use Rattle.characters.specs.Reads.{Skip}
use Rattle.std.specs.declared.option.Option.{Option}
use Rattle.std.specs.declared.option.Option.TheVariants.{None, Some}
use Rattle.std.specs.declared.result.Result.TheVariants.{Err, Ok}
use Rattle.characters.specs.Reads.{Skips, ends_of, bad_of}
use Rattle.language.specs.Tree.{Decoded, escaped}
use Rattle.rooms.specs.Told.{ESCAPE, spot}
use Rattle.rooms.specs.declared.Cursor.{Cursor}
use Rattle.rooms.specs.Contract.{Step}
use Rattle.rooms.specs.Contract.{Ans}
use Rattle.rooms.specs.Contract.{Stepped, Takes, Ready}
use Rattle.rooms.specs.Laws.{step_byte, step_next, step_inside, step_over}
use Rattle.characters.specs.Reads.{Read}
use Rattle.strings.specs.Code.{code_r}
use Rattle.strings.specs.Quoted.{letter_r, braced_r, coded_r, behind_r, escape_r}
use Rattle.strings.specs.Contract.{Letter, letter_some, letter_none, Naming, CodeAt, Stored, Texts}
use Rattle.strings.proofs.CodeLaws.{utf8_most}
use Rattle.strings.proofs.TextLaws.{text_refused, spelling, front_not, front_ready, front_read, escape_fits, escape_adds}

-- ---- behind the backslash

-- ---- a letter

module _ (doc : List ℕ) (c : Cursor) where
  abbrev Behind : Ans → List ℕ → List ℕ → Type 0
  Behind a T T' = Texts doc c (behind_r c.at (drop c.at doc)) a T T'

  choice : behind_r c.at (drop c.at doc) ≡ pick (is lettered (peek doc c.at)) (letter_r c.at (drop c.at doc)) (coded_r c.at (drop c.at doc))
  choice = alt_peek doc c.at lettered refl letter_r coded_r

  module _ (t : Step) (h : Stepped doc c t) where
    pub letter_over : (T : List ℕ) → t ≡ None → Behind (Err c.at) T T
    letter_over T e =
        let z : peek doc c.at ≡ 256 = step_over doc c t h e in
        text_refused doc c _ T T c.at (choice ∙ rw (z, byte_not doc c.at 117 256 (omega arith) (sym z) (λ k. omega arith)) refl)

    module _ (b : ℕ) (n : Cursor) (e : t ≡ Some (b, n)) (r : Option ℕ) (l : Letter b r) where
      here : b ≡ peek doc c.at
      here = step_byte doc c t h b n e

      pub letter_read : (v x : ℕ) (T T' : List ℕ) → r ≡ Some v → x ≡ spot c.text → T' ≡ set T x v → Behind (Ok (record { at = n.at; row = c.row; text = c.text + ESCAPE + 1 })) T T'
      letter_read v p T T' m q k =
          let s = letter_some b r l v m in
          let x : is lettered b ≡ true = s.0 in
          let z : v ≡ stands_for b = s.1 in
          let i = step_inside doc c t h b n e in
          let f : letter_r c.at (drop c.at doc) ≡ ok (escaped (stands_for b ∷ [])) (suc c.at) (drop (suc c.at) doc) = rw (byte_peek doc c.at lettered refl, ← here, x) refl in
          rw (step_next doc c t h b n e)
          (spelling doc c _ T T' (escaped (v ∷ [])) (c.at + 1) (c.text + ESCAPE + 1) (choice ∙ rw (← here, x, f, ← z, add-one) refl) (omega arith) (omega arith) (omega arith) (omega arith) (omega arith) (rw q at k))

      pub letter_coded : (a : Ans) (T T' : List ℕ) → r ≡ None → Texts doc c (coded_r c.at (drop c.at doc)) a T T' → Behind a T T'
      letter_coded a T T' z k = rw (choice, ← here, letter_none b r l z) k

pub ruleset lettering_on = (letter_over, letter_read, letter_coded, escape_fits, escape_adds, rules)

-- ---- `u{..}`

module _ (doc : List ℕ) (c : Cursor) (r : Read) (code : CodeAt doc c.at r) where
  abbrev Braced : Ans → List ℕ → List ℕ → Type 0
  Braced a T T' = Texts doc c (braced_r c.at (drop c.at doc)) a T T'

  pub coded_bad : (T : List ℕ) (q : ℕ) → r ≡ Err q → Braced (Err q) T T
  unfolding CodeAt
  coded_bad T q e = let h : code_r c.at (drop c.at doc) ≡ bad q = rw e at code in text_refused doc c _ T T q (rw h refl)

  module _ (v : ℕ) (m : Reading) (named : r ≡ Ok (v, m)) where
    naming : Naming doc c.at v m.at
    unfolding CodeAt
    naming = rw named at code

    pub coded_top : v < 1114112
    coded_top = naming.top

    module _ (s : Skip) (shut : Skips doc m.at (byte_r (is (only 125)) m.at (drop m.at doc)) s) where
      pub coded_open : (T : List ℕ) (p : ℕ) → s ≡ Err p → Braced (Err p) T T
      coded_open T p e = text_refused doc c _ T T p (rw (naming.is, bad_of doc m.at _ s p e shut) refl)

      -- a scalar value has a few bytes
      pub coded_more : (x from : ℕ) (T T' : List ℕ) → Stored T T' from v x → from ≤ x
      coded_more x from T T' t = omega (arith, t.end)

      pub coded_fits : (x from : ℕ) (T T' : List ℕ) → Ready doc c → Stored T T' from v x → c.text + ESCAPE + (x - from) < 2 ^ 64
      coded_fits x from T T' ready t = escape_adds doc c ready (x - from) (omega (arith, t.end, utf8_most v))

      pub coded_read : (e x : ℕ) (T T' : List ℕ) → s ≡ Ok e → (from : ℕ) → from ≡ spot c.text → Stored T T' from v x → Braced (Ok (record { at = e; row = c.row; text = c.text + ESCAPE + (x - from) })) T T'
      coded_read e x T T' k from y t =
          let z = ends_of doc m.at _ s e k shut in
          spelling doc c _ T T' (escaped (utf8 v)) e (c.text + ESCAPE + (x - from)) (rw (naming.is, z.is, naming.number) refl)
          (omega (arith, naming.ahead, z.behind)) z.inside (omega (arith, t.end)) (omega (arith, naming.few, z.behind)) (omega (arith, naming.ahead, z.behind)) (rw y at t.room)

pub ruleset bracing = (coded_bad, coded_top, coded_open, coded_more, coded_fits, coded_read, escape_fits, rules)

-- ---- a backslash, `u` and `{`

module _ (doc : List ℕ) (c : Cursor) (t : Ans) where
  module _ (h : Takes doc c 92 t) where
    pub escape_not : (T : List ℕ) (p : ℕ) → t ≡ Err p → Texts doc c (escape_r c.at (drop c.at doc)) (Err p) T T
    unfolding escape_r
    escape_not T p e = front_not doc c 92 (omega arith) t h behind_r T p e

    pub escape_on : (n : Cursor) (a : Ans) (T T' : List ℕ) → t ≡ Ok n → Texts doc n (behind_r n.at (drop n.at doc)) a T T' → Texts doc c (escape_r c.at (drop c.at doc)) a T T'
    unfolding escape_r
    escape_on n a T T' e x = front_read doc c 92 (omega arith) t h n e behind_r a T T' x

    pub back_ready : (n : Cursor) → t ≡ Ok n → Ready doc c → Ready doc n
    back_ready n e ready = front_ready doc c 92 (omega arith) t h n e ready

pub ruleset escapes = (escape_not, escape_on, back_ready, rules)

-- `u{` is `u`, and then `{`
abbrev open_r : Reader Decoded
open_r = seq_r (byte_r (is (only 123))) λ _. braced_r

word_as : (at : ℕ) (s : List ℕ) → coded_r at s ≡ seq_r (byte_r (is (only 117))) (λ _. open_r) at s
word_as at s =
    bind_bind (byte_r (is (only 117)) at s) (λ _. word_r (123 ∷ [])) (λ _. braced_r)
    ∙ bind_same (byte_r (is (only 117)) at s) _ _ (λ v a t. bind_bind (byte_r (is (only 123)) a t) (λ _. ret_r 0) (λ _. braced_r))

module _ (doc : List ℕ) (c : Cursor) (t : Ans) (h : Takes doc c 117 t) where
  abbrev Coding : Ans → List ℕ → List ℕ → Type 0
  Coding a T T' = Texts doc c (coded_r c.at (drop c.at doc)) a T T'

  pub letter_u_not : (T : List ℕ) (p : ℕ) → t ≡ Err p → Coding (Err p) T T
  letter_u_not T p e = rw (word_as c.at (drop c.at doc)) (front_not doc c 117 (omega arith) t h open_r T p e)

  module _ (u : Cursor) (e : t ≡ Ok u) (s : Ans) (k : Takes doc u 123 s) where
    pub brace_not : (T : List ℕ) (p : ℕ) → s ≡ Err p → Coding (Err p) T T
    brace_not T p x =
        rw (word_as c.at (drop c.at doc)) (front_read doc c 117 (omega arith) t h u e open_r (Err p) T T (front_not doc u 123 (omega arith) s k braced_r T p x))

    module _ (n : Cursor) (x : s ≡ Ok n) where
      pub brace_ready : Ready doc c → Ready doc n
      brace_ready ready = front_ready doc u 123 (omega arith) s k n x (front_ready doc c 117 (omega arith) t h u e ready)

      pub brace_on : (a : Ans) (T T' : List ℕ) → Texts doc n (braced_r n.at (drop n.at doc)) a T T' → Coding a T T'
      brace_on a T T' y =
          rw (word_as c.at (drop c.at doc))
          (front_read doc c 117 (omega arith) t h u e open_r a T T' (front_read doc u 123 (omega arith) s k n x braced_r a T T' y))

pub ruleset bracings = (letter_u_not, brace_not, brace_ready, brace_on, rules)
