-- What a function that reads a text has to show at a return, from what the tests and the calls on the way say: each law's conclusion is the contract.
use mathlib.Core.Path.{◌≡◌, refl, sym, ap, ◌∙◌}
use mathlib.Core.List.{List, [], ◌∷◌, ◌++◌}
use Prim.Native.Nat.{ℕ, suc, ◌+◌, ◌-◌, ◌/◌, ◌%◌, ◌^◌, ◌≤◌, ◌<◌}
use native.Mathlib.Numerals.{add-one}
use native.Mathlib.Omega.{arith}
use lib.ListN.{length, drop, set}
use lib.Seq.{sets, slice}
use borrow.Author.Rules.{rules}
use borrow.Author.Tests.{le-leb, lt-leb}
use Rattle.exact.specs.Class.{is, only}
use Rattle.exact.specs.Out.{Out, ok, bad, Reader}
use Rattle.exact.specs.Lang.{byte_r}
use Rattle.exact.specs.Comb.{seq_r}
use Rattle.exact.specs.Place.{peek, peek_in, byte_is, byte_not}
use Rattle.language.specs.Characters.{utf8}
use Rattle.language.specs.Tree.{Decoded}
use Rattle.rooms.specs.Told.{ESCAPE, spot, tally, told, spot_on, tally_on, word_is}
use Rattle.rooms.specs.declared.Cursor.{Cursor}
use Rattle.rooms.specs.Contract.{Ans}
use Rattle.std.specs.declared.result.Result.TheVariants.{Err, Ok}
use Rattle.rooms.specs.Contract.{onward, Takes, Ready}
use Rattle.language.specs.Answered.{limit}
use Rattle.rooms.specs.Laws.{take_next, take_byte, take_place, take_other}
use Rattle.rooms.specs.Stores.{sets_append, sets_past}
use Rattle.strings.specs.Contract.{Spelt, Texted, Texts, Stored}
use Rattle.strings.specs.Joining.{itself}
use Rattle.strings.specs.Inside.{Copied}

-- ---- stores of a few bytes

module _ (T A B C D : List ℕ) (x a b c d : ℕ) where
  pub one_byte : A ≡ set T x a → A ≡ sets T x (a ∷ [])
  one_byte h = h

  pub two_bytes : A ≡ set T x a → B ≡ set A (x + 1) b → B ≡ sets T x (a ∷ b ∷ [])
  two_bytes h k = rw (k, h, add-one) refl

  pub three_bytes : A ≡ set T x a → B ≡ set A (x + 1) b → C ≡ set B (x + 2) c → C ≡ sets T x (a ∷ b ∷ c ∷ [])
  three_bytes h k l = let p : x + 1 ≡ suc x = omega arith in let q : x + 2 ≡ suc (suc x) = omega arith in rw (l, k, h, p, q) refl

  pub four_bytes : A ≡ set T x a → B ≡ set A (x + 1) b → C ≡ set B (x + 2) c → D ≡ set C (x + 3) d → D ≡ sets T x (a ∷ b ∷ c ∷ d ∷ [])
  four_bytes h k l m =
      let p : x + 1 ≡ suc x = omega arith in
      let q : x + 2 ≡ suc (suc x) = omega arith in
      let r : x + 3 ≡ suc (suc (suc x)) = omega arith in
      rw (m, l, k, h, p, q, r) refl

-- one text behind another
pub room_join : (T₀ T T' : List ℕ) (x j : ℕ) (u v : List ℕ) → T ≡ sets T₀ x u → j ≡ x + length u → T' ≡ sets T j v → T' ≡ sets T₀ x (u ++ v)
room_join T₀ T T' x j u v h e t = t ∙ rw (h, e) (sym (sets_append T₀ x u v))

-- ---- the text word has room for more

module _ (doc : List ℕ) (c : Cursor) (ready : Ready doc c) where
  pub text_adds : (n : ℕ) → n ≤ limit → c.text + n < 2 ^ 64
  text_adds n l = let h = word_is c.text in omega (arith, ready.small, ready.inside, ready.few_text, ready.few_escapes)

  pub text_fits : (e : ℕ) → e ≤ length doc → c.text + (e - c.at) < 2 ^ 64
  text_fits e l = text_adds (e - c.at) (omega (arith, ready.small))

  pub escape_fits : c.text + ESCAPE < 2 ^ 64
  escape_fits = let h = word_is c.text in omega (arith, ready.small, ready.inside, ready.few_text, ready.few_escapes)

  pub escape_adds : (n : ℕ) → n ≤ limit → c.text + ESCAPE + n < 2 ^ 64
  escape_adds n l = let h = word_is c.text in omega (arith, ready.small, ready.inside, ready.few_text, ready.few_escapes)

-- a run is copied as it stands
pub copied : (Run : List ℕ → ℕ → ℕ → Type 0) (doc : List ℕ) (c : Cursor) (e x : ℕ) (T T' : List ℕ) → Run doc c.at e → x ≡ spot c.text → T' ≡ sets T x (slice c.at e doc)
    → Copied Run doc c (record { at = e; row = c.row; text = c.text + (e - c.at) }) T T'
copied Run doc c e x T T' r h t = record { run = r; row = refl; end = refl; room = rw h at t }

pub ruleset copies = (copied, text_fits, rules)

-- ---- where a text that was read ends in the room, and what it adds

module _ (doc : List ℕ) (c n : Cursor) (v : Decoded) (T T' : List ℕ) (ready : Ready doc c) (s : Spelt doc c n v T T') where
  short : spot c.text + length v.bytes < ESCAPE
  short = omega (arith, ready.small, ready.few_text, s.few, s.inside)

  pub spelt_spot : spot n.text ≡ spot c.text + length v.bytes
  spelt_spot = ap spot s.end ∙ spot_on c.text (length v.bytes) v.escapes short

  pub spelt_tally : tally n.text ≡ tally c.text + v.escapes
  spelt_tally = ap tally s.end ∙ tally_on c.text (length v.bytes) v.escapes short

-- ---- a scalar value

module _ (T A B C D : List ℕ) (x v : ℕ) where
  pub scalar_one : v ≤ 127 → A ≡ set T x v → Stored T A x v (x + 1)
  scalar_one l h = let z = le-leb v 127 l in record { end = rw z refl; room = rw z h }

  pub scalar_two : 127 < v → v ≤ 2047 → A ≡ set T x (192 + v / 64) → B ≡ set A (x + 1) (128 + v % 64) → Stored T B x v (x + 2)
  scalar_two l m h k =
      let y = lt-leb v 127 l in
      let z = le-leb v 2047 m in
      record { end = rw (y, z) refl; room = rw (y, z) (two_bytes T A B B B x (192 + v / 64) (128 + v % 64) 0 0 h k) }

  pub scalar_three : 2047 < v → v ≤ 65535 → A ≡ set T x (224 + v / 4096) → B ≡ set A (x + 1) (128 + v / 64 % 64) → C ≡ set B (x + 2) (128 + v % 64) → Stored T C x v (x + 3)
  scalar_three l m h k n =
      let w = lt-leb v 127 (omega arith) in
      let y = lt-leb v 2047 l in
      let z = le-leb v 65535 m in
      record { end = rw (w, y, z) refl; room = rw (w, y, z) (three_bytes T A B C C x (224 + v / 4096) (128 + v / 64 % 64) (128 + v % 64) 0 h k n) }

  pub scalar_four : 65535 < v → A ≡ set T x (240 + v / 262144) → B ≡ set A (x + 1) (128 + v / 4096 % 64) → C ≡ set B (x + 2) (128 + v / 64 % 64)
      → D ≡ set C (x + 3) (128 + v % 64) → Stored T D x v (x + 4)
  scalar_four l h k n m =
      let w = lt-leb v 127 (omega arith) in
      let y = lt-leb v 2047 (omega arith) in
      let z = lt-leb v 65535 l in
      record {
        end = rw (w, y, z) refl;
        room = rw (w, y, z) (four_bytes T A B C D x (240 + v / 262144) (128 + v / 4096 % 64) (128 + v / 64 % 64) (128 + v % 64) h k n m);
      }

  -- no byte of four has room
  pub scalar_past : 65535 < v → length T ≤ x → Stored T T x v (x + 4)
  scalar_past l p =
      let w = lt-leb v 127 (omega arith) in
      let y = lt-leb v 2047 (omega arith) in
      let z = lt-leb v 65535 l in
      record { end = rw (w, y, z) refl; room = sets_past (utf8 v) T x p }

pub ruleset stores = (scalar_one, scalar_two, scalar_three, scalar_four, scalar_past, rules)

-- ---- answers, made and taken apart

module _ (doc : List ℕ) (c : Cursor) (o : Out Decoded) (T T' : List ℕ) where
  pub text_refused : (q : ℕ) → o ≡ bad q → Texts doc c o (Err q) T T'
  unfolding Texts
  text_refused q h = h

  pub text_took : (n : Cursor) → Texted itself doc c o n 0 T T' → Texts doc c o (Ok n) T T'
  unfolding Texts
  text_took n h = h

  pub text_taken : (a : Ans) (n : Cursor) → a ≡ Ok n → Texts doc c o a T T' → Texted itself doc c o n 0 T T'
  unfolding Texts
  text_taken a n e h = rw e at h

  pub text_refusal : (a : Ans) (q : ℕ) → a ≡ Err q → Texts doc c o a T T' → o ≡ bad q
  unfolding Texts
  text_refusal a q e h = rw e at h

  pub spelling : (v : Decoded) (e x : ℕ) → o ≡ ok v e (drop e doc) → c.at < e → e ≤ length doc → x ≡ c.text + told v → c.at + length v.bytes ≤ e → c.at + v.escapes ≤ e
      → T' ≡ sets T (spot c.text) v.bytes
      → Texts doc c o (Ok (record { at = e; row = c.row; text = x })) T T'
  unfolding Texts
  spelling v e x h a i y f g t = record { value = v; is = h; spelt = record { ahead = a; inside = i; row = refl; end = y; few = f; scant = g; room = t } }

-- ---- a byte taken, and what stands behind it

module _ (doc : List ℕ) (c : Cursor) (b : ℕ) (small : b < 256) (t : Ans) (h : Takes doc c b t) where
  pub front_not : (q : Reader Decoded) (T : List ℕ) (p : ℕ) → t ≡ Err p → Texts doc c (seq_r (byte_r (is (only b))) (λ _. q) c.at (drop c.at doc)) (Err p) T T
  front_not q T p e =
      text_refused doc c _ T T p
      (rw (byte_not doc c.at b (peek doc c.at) small refl (take_other doc c b t h p e)) (ap bad (sym (take_place doc c b t h p e))))

  module _ (n : Cursor) (e : t ≡ Ok n) where
    pub front_ready : Ready doc c → Ready doc n
    front_ready ready =
        let i = peek_in doc c.at b (take_byte doc c b t h n e) small in
        rw (take_next doc c b t h n e)
        (record { small = ready.small; inside = omega arith; few_rows = omega (arith, ready.few_rows); few_text = omega (arith, ready.few_text); few_escapes = omega (arith, ready.few_escapes) })

    pub front_is : (q : Reader Decoded) → seq_r (byte_r (is (only b))) (λ _. q) c.at (drop c.at doc) ≡ q n.at (drop n.at doc)
    front_is q = rw (take_next doc c b t h n e, byte_is doc c.at b b small (take_byte doc c b t h n e) refl) refl

    pub front_read : (q : Reader Decoded) (a : Ans) (T T' : List ℕ) → Texts doc n (q n.at (drop n.at doc)) a T T'
        → Texts doc c (seq_r (byte_r (is (only b))) (λ _. q) c.at (drop c.at doc)) a T T'
    unfolding Texts
    front_read q (Err p) T T' x = front_is q ∙ x
    front_read q (Ok m) T T' x =
        let k : n ≡ onward c 1 = take_next doc c b t h n e in
        let s = x.spelt in
        record {
          value = x.value;
          is = front_is q ∙ x.is;
          spelt =
              record {
                ahead = omega (arith, s.ahead, ap (λ (z : Cursor). z.at) k);
                inside = s.inside;
                row = s.row ∙ ap (λ (z : Cursor). z.row) k;
                end = s.end ∙ ap (λ (z : Cursor). z.text + told x.value) k;
                few = omega (arith, s.few, ap (λ (z : Cursor). z.at) k);
                scant = omega (arith, s.scant, ap (λ (z : Cursor). z.at) k);
                room = s.room ∙ ap (λ (z : Cursor). sets T (spot z.text) x.value.bytes) k;
              };
        }
