-- Laws of the reader of keywords and numbers at the cursor: which of them the first bytes say, and the number that was scanned and written. Assumes nothing.
use mathlib.Core.Path.{◌≡◌, refl, sym, ap, ◌∙◌}
use mathlib.Core.List.{List, [], ◌∷◌}
use mathlib.Core.Bool.{Bool}
use Prim.Native.Nat.{ℕ, ◌+◌, ◌<◌}
use native.Mathlib.Omega.{arith}
use lib.ListN.{drop}
use Rattle.exact.specs.Out.{Out, bind, ok, soft, bad, Reader}
use Rattle.exact.specs.Class.{is, only}
use Rattle.exact.specs.Lang.{ret_r, byte_r}
use Rattle.exact.specs.Comb.{seq_r, alt_r}
use Rattle.exact.specs.Ll.{here_r, word_r}
use Rattle.exact.specs.Place.{peek, byte_is, alt_is, alt_not}
use Rattle.characters.specs.Reads.{Skip}
use Rattle.std.specs.declared.result.Result.TheVariants.{Err, Ok}
use Rattle.characters.specs.Reads.{Skips}
use Rattle.characters.specs.Takes.{take_byte, take_other}
use Rattle.rooms.specs.declared.Cursor.{Cursor}
use Rattle.rooms.specs.Contract.{Far}
use Rattle.rooms.specs.Contract.{Reaches}
use Rattle.language.specs.Kind.{NULL, FALSE, TRUE, FLOAT}
use Rattle.language.specs.Tree.{unescaped, Tree, leaf}
use Rattle.language.specs.Scalars.{null_word, true_word, false_word, nan_word, infinity_word}
use Rattle.numbers.specs.Same.{Found, found, leaf_of}
use Rattle.numbers.specs.Plain.{said_r, nan_r, signed_r, unsigned_r, body_r, plain_r}
use Rattle.numbers.specs.Keyword.{keyword_r}
use Rattle.numbers.specs.Contract.{Passed}
use Rattle.numbers.proofs.ScanLaws.{one_at}

-- THE SPAN round what is found
abbrev pub close : ℕ → Found → ℕ → List ℕ → Out Tree
close a f = seq_r here_r λ e. ret_r (leaf_of a e f)

pub plain_by : (spaced : Bool) (at : ℕ) (s : List ℕ) (o : Out Found) → body_r spaced at s ≡ o → plain_r spaced at s ≡ bind o (close at)
unfolding plain_r
plain_by spaced at s o h = ap (λ x. bind x (close at)) h

said_close : (at kind : ℕ) (text : List ℕ) (o : Out ℕ) → bind (bind o (λ _. ret_r (found kind text))) (close at) ≡ bind o (λ _ e. ret_r (leaf kind at e (unescaped text)) e)
said_close at kind text (ok v a t) = refl
said_close at kind text (soft p v a t) = refl
said_close at kind text (bad p) = refl

-- THE WAYS of the first byte
abbrev pub number_on : Bool → Reader Found
number_on spaced = alt_r (is (only 45)) (signed_r spaced) (unsigned_r spaced [])

abbrev infinity_on : Bool → Reader Found
infinity_on spaced = alt_r (is (only 105)) (said_r FLOAT infinity_word infinity_word) (number_on spaced)

abbrev false_on : Bool → Reader Found
false_on spaced = alt_r (is (only 102)) (said_r FALSE false_word []) (infinity_on spaced)

abbrev true_on : Bool → Reader Found
true_on spaced = alt_r (is (only 116)) (said_r TRUE true_word []) (false_on spaced)

module _ (spaced : Bool) (doc : List ℕ) (at b : ℕ) (h : b ≡ peek doc at) where
  yes_byte : (a : ℕ) (r q : Reader Found) → a < 256 → b ≡ a → alt_r (is (only a)) r q at (drop at doc) ≡ r at (drop at doc)
  yes_byte a r q l e = alt_is doc at a b l h r q e

  no_byte : (a : ℕ) (r q : Reader Found) → a < 256 → (b ≡ a → ⊥) → alt_r (is (only a)) r q at (drop at doc) ≡ q at (drop at doc)
  no_byte a r q l e = alt_not doc at a b l h r q e

  body_true : b ≡ 116 → body_r spaced at (drop at doc) ≡ said_r TRUE true_word [] at (drop at doc)
  unfolding body_r
  body_true e = no_byte 110 nan_r (true_on spaced) (omega arith) (λ z. omega arith) ∙ yes_byte 116 (said_r TRUE true_word []) (false_on spaced) (omega arith) e

  body_false : b ≡ 102 → body_r spaced at (drop at doc) ≡ said_r FALSE false_word [] at (drop at doc)
  unfolding body_r
  body_false e =
      no_byte 110 nan_r (true_on spaced) (omega arith) (λ z. omega arith)
      ∙ (no_byte 116 (said_r TRUE true_word []) (false_on spaced) (omega arith) (λ z. omega arith) ∙ yes_byte 102 (said_r FALSE false_word []) (infinity_on spaced) (omega arith) e)

  body_infinity : b ≡ 105 → body_r spaced at (drop at doc) ≡ said_r FLOAT infinity_word infinity_word at (drop at doc)
  unfolding body_r
  body_infinity e =
      no_byte 110 nan_r (true_on spaced) (omega arith) (λ z. omega arith)
      ∙ (no_byte 116 (said_r TRUE true_word []) (false_on spaced) (omega arith) (λ z. omega arith)
      ∙ (no_byte 102 (said_r FALSE false_word []) (infinity_on spaced) (omega arith) (λ z. omega arith)
      ∙ yes_byte 105 (said_r FLOAT infinity_word infinity_word) (number_on spaced) (omega arith) e))

  pub body_number : (b ≡ 110 → ⊥) → (b ≡ 116 → ⊥) → (b ≡ 102 → ⊥) → (b ≡ 105 → ⊥) → body_r spaced at (drop at doc) ≡ number_on spaced at (drop at doc)
  unfolding body_r
  body_number n t f i =
      no_byte 110 nan_r (true_on spaced) (omega arith) n
      ∙ (no_byte 116 (said_r TRUE true_word []) (false_on spaced) (omega arith) t
      ∙ (no_byte 102 (said_r FALSE false_word []) (infinity_on spaced) (omega arith) f ∙ no_byte 105 (said_r FLOAT infinity_word infinity_word) (number_on spaced) (omega arith) i))

  body_nan : b ≡ 110 → body_r spaced at (drop at doc) ≡ nan_r at (drop at doc)
  unfolding body_r
  body_nan e = yes_byte 110 nan_r (true_on spaced) (omega arith) e

  pub body_minus : b ≡ 45 → body_r spaced at (drop at doc) ≡ signed_r spaced at (drop at doc)
  body_minus e =
      body_number (λ z. omega arith) (λ z. omega arith) (λ z. omega arith) (λ z. omega arith) ∙ yes_byte 45 (signed_r spaced) (unsigned_r spaced []) (omega arith) e

-- .. and of the second
module _ (spaced : Bool) (doc : List ℕ) (at : ℕ) where
  -- a word whose first byte was read
  word_rest : (a : ℕ) (ws : List ℕ) → a < 256 → a ≡ peek doc at → word_r (a ∷ ws) at (drop at doc) ≡ word_r ws (at + 1) (drop (at + 1) doc)
  word_rest a ws l h = ap (λ o. bind o (λ _. word_r ws)) (byte_is doc at a a l h refl)

  module _ (b : ℕ) (k : b ≡ peek doc (at + 1)) where
    nan_two : 110 ≡ peek doc at → b ≡ 97 → nan_r at (drop at doc) ≡ said_r FLOAT nan_word nan_word at (drop at doc)
    unfolding nan_r
    nan_two h e =
        ap (λ o. bind o (λ _. alt_r (is (only 97)) (said_r FLOAT (97 ∷ 110 ∷ []) nan_word) (said_r NULL (117 ∷ 108 ∷ 108 ∷ []) []))) (byte_is doc at 110 110 (omega arith) h refl)
        ∙ (alt_is doc (at + 1) 97 b (omega arith) k (said_r FLOAT (97 ∷ 110 ∷ []) nan_word) (said_r NULL (117 ∷ 108 ∷ 108 ∷ []) []) e
        ∙ ap (λ o. bind o (λ _. ret_r (found FLOAT nan_word))) (sym (word_rest 110 (97 ∷ 110 ∷ []) (omega arith) h)))

    null_two : 110 ≡ peek doc at → (b ≡ 97 → ⊥) → nan_r at (drop at doc) ≡ said_r NULL null_word [] at (drop at doc)
    unfolding nan_r
    null_two h e =
        ap (λ o. bind o (λ _. alt_r (is (only 97)) (said_r FLOAT (97 ∷ 110 ∷ []) nan_word) (said_r NULL (117 ∷ 108 ∷ 108 ∷ []) []))) (byte_is doc at 110 110 (omega arith) h refl)
        ∙ (alt_not doc (at + 1) 97 b (omega arith) k (said_r FLOAT (97 ∷ 110 ∷ []) nan_word) (said_r NULL (117 ∷ 108 ∷ 108 ∷ []) []) e
        ∙ ap (λ o. bind o (λ _. ret_r (found NULL []))) (sym (word_rest 110 (117 ∷ 108 ∷ 108 ∷ []) (omega arith) h)))

    infinity_two : 45 ≡ peek doc at → b ≡ 105 → signed_r spaced at (drop at doc) ≡ said_r FLOAT (45 ∷ infinity_word) (45 ∷ infinity_word) at (drop at doc)
    unfolding signed_r
    infinity_two h e =
        ap (λ o. bind o (λ m. alt_r (is (only 105)) (said_r FLOAT infinity_word (45 ∷ infinity_word)) (unsigned_r spaced m))) (one_at doc at 45 (omega arith) h)
        ∙ (alt_is doc (at + 1) 105 b (omega arith) k (said_r FLOAT infinity_word (45 ∷ infinity_word)) (unsigned_r spaced (45 ∷ [])) e
        ∙ ap (λ o. bind o (λ _. ret_r (found FLOAT (45 ∷ infinity_word)))) (sym (word_rest 45 infinity_word (omega arith) h)))

    pub number_two : 45 ≡ peek doc at → (b ≡ 105 → ⊥) → signed_r spaced at (drop at doc) ≡ unsigned_r spaced (45 ∷ []) (at + 1) (drop (at + 1) doc)
    unfolding signed_r
    number_two h e =
        ap (λ o. bind o (λ m. alt_r (is (only 105)) (said_r FLOAT infinity_word (45 ∷ infinity_word)) (unsigned_r spaced m))) (one_at doc at 45 (omega arith) h)
        ∙ alt_not doc (at + 1) 105 b (omega arith) k (said_r FLOAT infinity_word (45 ∷ infinity_word)) (unsigned_r spaced (45 ∷ [])) e

  -- a keyword with its span
  plain_said : (kind : ℕ) (word text : List ℕ) → body_r spaced at (drop at doc) ≡ said_r kind word text at (drop at doc)
      → plain_r spaced at (drop at doc) ≡ keyword_r kind word text at (drop at doc)
  unfolding keyword_r
  plain_said kind word text h = plain_by spaced at (drop at doc) (said_r kind word text at (drop at doc)) h ∙ said_close at kind text (word_r word at (drop at doc))

-- ONE READER FOR ANOTHER, at the cursor
module _ (doc : List ℕ) (c : Cursor) (p : ℕ) (a : Far) (R R' T T' : List ℕ) (spaced : Bool) where
  abbrev Via : Reader Tree → Type 0
  Via r = Reaches doc c p (r c.at (drop c.at doc)) a R R' T T'

  via : (r q : Reader Tree) → q c.at (drop c.at doc) ≡ r c.at (drop c.at doc) → Via r → Via q
  via r q h x = rw h x

  module _ (b n : ℕ) (q : Passed doc c.at b n) where
    pub via_true : b ≡ 116 → Via (keyword_r TRUE true_word []) → Via (plain_r spaced)
    via_true e = via (keyword_r TRUE true_word []) (plain_r spaced) (plain_said spaced doc c.at TRUE true_word [] (body_true spaced doc c.at b q.stands.byte e))

    pub via_false : b ≡ 102 → Via (keyword_r FALSE false_word []) → Via (plain_r spaced)
    via_false e = via (keyword_r FALSE false_word []) (plain_r spaced) (plain_said spaced doc c.at FALSE false_word [] (body_false spaced doc c.at b q.stands.byte e))

    pub via_infinity : b ≡ 105 → Via (keyword_r FLOAT infinity_word infinity_word) → Via (plain_r spaced)
    via_infinity e =
        via (keyword_r FLOAT infinity_word infinity_word) (plain_r spaced)
        (plain_said spaced doc c.at FLOAT infinity_word infinity_word (body_infinity spaced doc c.at b q.stands.byte e))

  -- by the second byte, which stands at n
  module _ (n : ℕ) (q : Passed doc c.at 110 n) (t : Skip) (h : Skips doc n (byte_r (is (only 97)) n (drop n doc)) t) where
    pub via_nan : (e : ℕ) → t ≡ Ok e → Via (keyword_r FLOAT nan_word nan_word) → Via (plain_r spaced)
    via_nan e k =
        via (keyword_r FLOAT nan_word nan_word) (plain_r spaced)
        (plain_said spaced doc c.at FLOAT nan_word nan_word
        (body_nan spaced doc c.at 110 q.stands.byte refl
        ∙ nan_two spaced doc c.at 97 (take_byte doc n 97 (omega arith) t h e k ∙ ap (peek doc) q.next) q.stands.byte refl))

    pub via_null : (p : ℕ) → t ≡ Err p → Via (keyword_r NULL null_word []) → Via (plain_r spaced)
    via_null p k =
        via (keyword_r NULL null_word []) (plain_r spaced)
        (plain_said spaced doc c.at NULL null_word []
        (body_nan spaced doc c.at 110 q.stands.byte refl
        ∙ null_two spaced doc c.at (peek doc n) (ap (peek doc) q.next) q.stands.byte (take_other doc n 97 (omega arith) t h p k)))

  pub via_minus : (n : ℕ) (t : Skip) (e : ℕ) → Passed doc c.at 45 n → Skips doc n (byte_r (is (only 105)) n (drop n doc)) t → t ≡ Ok e
      → Via (keyword_r FLOAT (45 ∷ infinity_word) (45 ∷ infinity_word)) → Via (plain_r spaced)
  via_minus n t e q h k =
      via (keyword_r FLOAT (45 ∷ infinity_word) (45 ∷ infinity_word)) (plain_r spaced)
      (plain_said spaced doc c.at FLOAT (45 ∷ infinity_word) (45 ∷ infinity_word)
      (body_minus spaced doc c.at 45 q.stands.byte refl
      ∙ infinity_two spaced doc c.at 105 (take_byte doc n 105 (omega arith) t h e k ∙ ap (peek doc) q.next) q.stands.byte refl))
