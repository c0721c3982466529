-- Readers at a place of a document: `r at (drop at doc)`. What code learns by a look at one byte, by a word compared, by a run of bytes, said of the readers. Assumes nothing.
use Rattle.std.specs.Prelude.{◌≡◌, List, [], ◌∷◌, ◌++◌, Bool, true, false, length, get_or, take, eqb}
use Rattle.std.proofs.Math.Path.{refl}
use Rattle.std.proofs.Common.{sym, ap, subst, ◌∙◌, add-zero, zero-add, suc-add, length-drop, take-append-drop, drop-drop, take-take}
use Prim.Native.Nat.{ℕ, zero, suc, ◌+◌, ◌-◌, ◌≤◌, ◌<◌}
use Rattle.std.proofs.Math.Numerals.{add-one}
use native.Mathlib.Omega.{arith}
use Rattle.std.proofs.Math.Decide.{dec_le}
use Rattle.std.proofs.Math.ListN.{drop, drop_of_length-le, get_or-eq_default}
use Rattle.std.proofs.Math.Seq.{drop-cons, slice, take-nil}
use borrow.Author.Tests.{eqb-true, eqb-false, eq-eqb, ne_eqb}
use Rattle.exact.specs.Out.{Out, ok, soft, bad, raise, bind, fmap, Reader}
use Rattle.exact.specs.Lang.{ret_r, byte_r}
use Rattle.exact.specs.Answers.{raise_bind, raise_fmap, bind_ret}
use Rattle.exact.specs.Comb.{seq_r, alt_r, star_r, many_r}
use Rattle.exact.specs.Class.{pick, Class, is, only, only_is, only_no, only_yes}
use Rattle.exact.specs.Ll.{word_r}

-- The byte at a place; 256, which no class holds, at the end and past it.
abbrev pub peek : List ℕ → ℕ → ℕ
peek doc at = get_or doc at 256

pub get_d_any : (l : List ℕ) (i d d' : ℕ) → i < length l → get_or l i d ≡ get_or l i d'
get_d_any [] i d d' h = absurd (omega arith)
get_d_any (x ∷ l) zero d d' h = refl
get_d_any (x ∷ l) (suc i) d d' h = get_d_any l i d d' (omega arith)

pub peek_in : (doc : List ℕ) (at b : ℕ) → b ≡ peek doc at → b < 256 → at < length doc
peek_in [] at b e h = absurd (omega arith)
peek_in (y ∷ doc) zero b e h = omega arith
peek_in (y ∷ doc) (suc at) b e h = let k : at < length doc = peek_in doc at b e h in omega arith

pub peek_cons : (doc : List ℕ) (at b : ℕ) → b ≡ peek doc at → b < 256 → drop at doc ≡ b ∷ drop (suc at) doc
peek_cons doc at b e h = rw e (drop-cons doc at 256 (peek_in doc at b e h))

-- what is there at a place: its byte and the rest, or nothing
pub data There (doc : List ℕ) (at : ℕ) : Type 0 where
  byte_there : drop at doc ≡ peek doc at ∷ drop (suc at) doc → There doc at
  none_there : drop at doc ≡ [] → peek doc at ≡ 256 → There doc at

pub there : (doc : List ℕ) (at : ℕ) → There doc at
there doc at = go (dec_le (suc at) (length doc))
  where
    go : Dec (suc at ≤ length doc) → There doc at
    go (yes h) = byte_there (drop-cons doc at 256 h)
    go (no h) = let l : length doc ≤ at = omega arith in none_there (drop_of_length-le doc l) (get_or-eq_default doc 256 l)

-- THE LAWS OF A LOOK: the byte at the place decides
module _ (doc : List ℕ) (at : ℕ) (c : Class) (e : is c 256 ≡ false) where
  pub byte_peek : byte_r (is c) at (drop at doc) ≡ pick (is c (peek doc at)) (ok (peek doc at) (suc at) (drop (suc at) doc)) (bad at)
  byte_peek = go (there doc at)
    where
      go : There doc at → byte_r (is c) at (drop at doc) ≡ pick (is c (peek doc at)) (ok (peek doc at) (suc at) (drop (suc at) doc)) (bad at)
      go (byte_there h) = ap (byte_r (is c) at) h
      go (none_there h k) = ap (byte_r (is c) at) h ∙ rw (k, e) refl

  pub alt_peek : {X : Type 0} (r q : Reader X) → alt_r (is c) r q at (drop at doc) ≡ pick (is c (peek doc at)) (r at (drop at doc)) (q at (drop at doc))
  alt_peek r q = go (there doc at)
    where
      go : There doc at → alt_r (is c) r q at (drop at doc) ≡ pick (is c (peek doc at)) (r at (drop at doc)) (q at (drop at doc))
      go (byte_there h) = rw h refl
      go (none_there h k) = rw (h, k, e) refl

-- the same for one byte, as a test in code says it
module _ (doc : List ℕ) (at a b : ℕ) (small : a < 256) (h : b ≡ peek doc at) where
  end_no : is (only a) 256 ≡ false
  end_no = only_no a 256 (λ e. omega arith)

  pub byte_is : b ≡ a → byte_r (is (only a)) at (drop at doc) ≡ ok a (at + 1) (drop (at + 1) doc)
  byte_is e = byte_peek doc at (only a) end_no ∙ rw (← h, e, only_is a, add-one) refl

  pub byte_not : (b ≡ a → ⊥) → byte_r (is (only a)) at (drop at doc) ≡ bad at
  byte_not n = byte_peek doc at (only a) end_no ∙ rw (← h, only_no a b n) refl

  pub alt_is : {X : Type 0} (r q : Reader X) → b ≡ a → alt_r (is (only a)) r q at (drop at doc) ≡ r at (drop at doc)
  alt_is r q e = alt_peek doc at (only a) end_no r q ∙ rw (← h, e, only_is a) refl

  pub alt_not : {X : Type 0} (r q : Reader X) → (b ≡ a → ⊥) → alt_r (is (only a)) r q at (drop at doc) ≡ q at (drop at doc)
  alt_not r q n = alt_peek doc at (only a) end_no r q ∙ rw (← h, only_no a b n) refl

-- A RUN: how many bytes of a class stand at the front
unfoldable pub run : Class → List ℕ → ℕ
run c [] = 0
run c (b ∷ s) = pick (is c b) (suc (run c s)) 0

run_step : (c : Class) (at b : ℕ) (s : List ℕ) → many_r (is c) (byte_r (is c)) (suc at) s ≡ ok (take (run c s) s) (suc at + run c s) (drop (run c s) s)
    → (y : Bool) → is c b ≡ y
    → pick y (bind (pick y (ok b (suc at) s) (bad at)) (λ v a t. fmap (v ∷◌) (star_r (is c) (byte_r (is c)) (length s) a t))) (ok [] at (b ∷ s))
    ≡ ok (take (pick y (suc (run c s)) 0) (b ∷ s)) (at + pick y (suc (run c s)) 0) (drop (pick y (suc (run c s)) 0) (b ∷ s))
run_step c at b s ih true e = ap (fmap (b ∷◌)) ih ∙ ap (λ n. ok (b ∷ take (run c s) s) n (drop (run c s) s)) (omega arith)
run_step c at b s ih false e = ap (λ n. ok [] n (b ∷ s)) (omega arith)

pub many_run : (c : Class) (at : ℕ) (s : List ℕ) → many_r (is c) (byte_r (is c)) at s ≡ ok (take (run c s) s) (at + run c s) (drop (run c s) s)
unfolding run
many_run c at [] = ap (λ n. ok [] n []) (omega arith)
many_run c at (b ∷ s) = run_step c at b s (many_run c (suc at) s) (is c b) refl

run_le_by : (y : Bool) (m n : ℕ) → m ≤ n → pick y (suc m) 0 ≤ suc n
run_le_by true m n h = omega arith
run_le_by false m n h = omega arith

pub run_le : (c : Class) (s : List ℕ) → run c s ≤ length s
unfolding run
run_le c [] = omega arith
run_le c (b ∷ s) = run_le_by (is c b) (run c s) (length s) (run_le c s)

-- the place after the run at a place
abbrev pub run_end : Class → List ℕ → ℕ → ℕ
run_end c doc at = at + run c (drop at doc)

pub slice_at : (d n : ℕ) (l : List ℕ) → take n (drop d l) ≡ slice d (d + n) l
slice_at zero n l = rw zero-add
slice_at (suc d) n [] = rw (take-nil n, take-nil (suc d + n)) refl
slice_at (suc d) n (x ∷ l) = rw (suc-add d n) (slice_at d n l)

-- one slice after another
pub slice_join : (a b e : ℕ) (l : List ℕ) → a ≤ b → b ≤ e → slice a b l ++ slice b e l ≡ slice a e l
slice_join zero b e l h k = ap (λ x. x ++ drop b (take e l)) (sym (take-take b e l k)) ∙ take-append-drop b (take e l)
slice_join (suc a) zero e l h k = absurd (omega arith)
slice_join (suc a) (suc b) zero l h k = absurd (omega arith)
slice_join (suc a) (suc b) (suc e) [] h k = refl
slice_join (suc a) (suc b) (suc e) (x ∷ l) h k = slice_join a b e l (omega arith) (omega arith)

module _ (c : Class) (doc : List ℕ) (at : ℕ) where
  pub run_end_lem : many_r (is c) (byte_r (is c)) at (drop at doc) ≡ ok (slice at (run_end c doc at) doc) (run_end c doc at) (drop (run_end c doc at) doc)
  run_end_lem =
      many_run c at (drop at doc)
      ∙ (ap (λ v. ok v (run_end c doc at) (drop (run c (drop at doc)) (drop at doc))) (slice_at at (run c (drop at doc)) doc)
      ∙ ap (ok (slice at (run_end c doc at) doc) (run_end c doc at)) (drop-drop (run c (drop at doc)) at doc))

  pub run_inside : at ≤ length doc → run_end c doc at ≤ length doc
  run_inside h = let b = run_le c (drop at doc) in let l = length-drop at doc in omega arith

  -- what a loop over the bytes learns
  pub run_over : length doc ≤ at → run_end c doc at ≡ at
  unfolding run
  run_over h = rw (drop_of_length-le doc h) (add-zero at)

  pub run_none : is c 256 ≡ false → is c (peek doc at) ≡ false → run_end c doc at ≡ at
  unfolding run
  run_none n e = go (there doc at)
    where
      go : There doc at → run_end c doc at ≡ at
      go (byte_there h) = rw (h, e) (add-zero at)
      go (none_there h k) = rw h (add-zero at)

  pub run_more : at < length doc → is c (peek doc at) ≡ true → run_end c doc at ≡ run_end c doc (at + 1)
  unfolding run
  run_more n e = rw (drop-cons doc at 256 n, e, add-one) (omega arith)

-- A WORD: how many of its bytes stand at the front
unfoldable pub common : List ℕ → List ℕ → ℕ
common [] s = 0
common (w ∷ ws) [] = 0
common (w ∷ ws) (b ∷ s) = pick (eqb b w) (suc (common ws s)) 0

pub common_le : (ws s : List ℕ) → common ws s ≤ length s
unfolding common
common_le [] s = omega arith
common_le (w ∷ ws) [] = omega arith
common_le (w ∷ ws) (b ∷ s) = run_le_by (eqb b w) (common ws s) (length s) (common_le ws s)

pub common_most : (ws s : List ℕ) → common ws s ≤ length ws
unfolding common
common_most [] s = omega arith
common_most (w ∷ ws) [] = omega arith
common_most (w ∷ ws) (b ∷ s) = run_le_by (eqb b w) (common ws s) (length ws) (common_most ws s)

-- what a loop over the word learns, after n bytes that are the same
module _ (w doc : List ℕ) (n at : ℕ) where
  pub common_end : length w ≤ n → common (drop n w) (drop at doc) ≡ 0
  unfolding common
  common_end h = rw (drop_of_length-le w h)

  pub common_over : n < length w → length doc ≤ at → common (drop n w) (drop at doc) ≡ 0
  unfolding common
  common_over h k = rw (drop-cons w n 0 h, drop_of_length-le doc k)

  pub common_other : n < length w → at < length doc → (get_or doc at 0 ≡ get_or w n 0 → ⊥) → common (drop n w) (drop at doc) ≡ 0
  unfolding common
  common_other h k d = rw (drop-cons w n 0 h, drop-cons doc at 0 k, ne_eqb (get_or doc at 0) (get_or w n 0) d)

  pub common_more : n < length w → at < length doc → get_or doc at 0 ≡ get_or w n 0
      → common (drop n w) (drop at doc) ≡ suc (common (drop (n + 1) w) (drop (at + 1) doc))
  unfolding common
  common_more h k d = rw (drop-cons w n 0 h, drop-cons doc at 0 k, eq-eqb (get_or doc at 0) (get_or w n 0) d, add-one, add-one)

pub common_in : (ws doc : List ℕ) (at n : ℕ) → n ≡ common ws (drop at doc) → at ≤ length doc → at + n ≤ length doc
common_in ws doc at n h k = let b = common_le ws (drop at doc) in let l = length-drop at doc in omega arith

pub word_all : (ws : List ℕ) (at : ℕ) (s : List ℕ) → common ws s ≡ length ws → word_r ws at s ≡ ok 0 (at + length ws) (drop (length ws) s)
unfolding common
word_all [] at s h = ap (λ n. ok 0 n s) (omega arith)
word_all (w ∷ ws) at [] h = absurd (omega arith)
word_all (w ∷ ws) at (b ∷ s) h = go (eqb b w) refl h (word_all ws (suc at) s)
  where
    go : (y : Bool) → eqb b w ≡ y → pick y (suc (common ws s)) 0 ≡ suc (length ws)
        → (common ws s ≡ length ws → word_r ws (suc at) s ≡ ok 0 (suc at + length ws) (drop (length ws) s))
        → bind (pick (is (only w) b) (ok b (suc at) s) (bad at)) (λ _. word_r ws) ≡ ok 0 (at + suc (length ws)) (drop (length ws) s)
    go true e k ih = rw (only_yes w b (eqb-true b w e)) (ih (omega arith) ∙ ap (λ n. ok 0 n (drop (length ws) s)) (omega arith))
    go false e k ih = absurd (omega arith)

pub word_part : (ws : List ℕ) (at : ℕ) (s : List ℕ) → (common ws s ≡ length ws → ⊥) → word_r ws at s ≡ bad (at + common ws s)
unfolding common
word_part [] at s h = absurd (h refl)
word_part (w ∷ ws) at [] h = ap bad (omega arith)
word_part (w ∷ ws) at (b ∷ s) h = go (eqb b w) refl h (word_part ws (suc at) s)
  where
    go : (y : Bool) → eqb b w ≡ y → (pick y (suc (common ws s)) 0 ≡ suc (length ws) → ⊥)
        → ((common ws s ≡ length ws → ⊥) → word_r ws (suc at) s ≡ bad (suc at + common ws s))
        → bind (pick (is (only w) b) (ok b (suc at) s) (bad at)) (λ _. word_r ws) ≡ bad (at + pick y (suc (common ws s)) 0)
    go true e k ih = rw (only_yes w b (eqb-true b w e)) (ih (λ z. k (omega arith)) ∙ ap bad (omega arith))
    go false e k ih = rw (only_no w b (eqb-false b w e)) (ap bad (omega arith))

-- A LIST: elements with a comma and a space between, and a byte that closes. `n` bounds the further elements.
abbrev pub rest_r : {X : Type 0} → ℕ → Reader X → ℕ → X → Reader (List X)
rest_r close r n v = seq_r (star_r (is (only 44)) (seq_r (word_r (44 ∷ 32 ∷ [])) λ _. r) n) λ vs. seq_r (byte_r (is (only close))) λ _. ret_r (v ∷ vs)

unfoldable pub list_n : {X : Type 0} → ℕ → Reader X → ℕ → Reader (List X)
list_n close r n = seq_r r (rest_r close r n)

abbrev pub list_r : {X : Type 0} → ℕ → Reader X → Reader (List X)
list_r close r = seq_r r λ v. seq_r (many_r (is (only 44)) (seq_r (word_r (44 ∷ 32 ∷ [])) λ _. r)) λ vs. seq_r (byte_r (is (only close))) λ _. ret_r (v ∷ vs)

-- an element more in front
module _ {X : Type 0} (close : ℕ) (r : Reader X) (v : X) where
  rest_cons : (w : X) (o : Out (List X))
      → bind (fmap (w ∷◌) o) (λ vs. seq_r (byte_r (is (only close))) λ _. ret_r (v ∷ vs))
      ≡ fmap (v ∷◌) (bind o (λ vs. seq_r (byte_r (is (only close))) λ _. ret_r (w ∷ vs)))
  rest_cons w (ok vs a t) = bind_ret (v ∷◌) (byte_r (is (only close)) a t) (w ∷ vs)
  rest_cons w (soft p vs a t) =
      ap (raise p) (bind_ret (v ∷◌) (byte_r (is (only close)) a t) (w ∷ vs)) ∙ raise_fmap (v ∷◌) p (bind (byte_r (is (only close)) a t) (λ _. ret_r (w ∷ vs)))
  rest_cons w (bad p) = refl

  turn : (n : ℕ) (o : Out X)
      → bind (bind o (λ w a t. fmap (w ∷◌) (star_r (is (only 44)) (seq_r (word_r (44 ∷ 32 ∷ [])) λ _. r) n a t))) (λ vs. seq_r (byte_r (is (only close))) λ _. ret_r (v ∷ vs))
      ≡ fmap (v ∷◌) (bind o (rest_r close r n))
  turn n (ok w a t) = rest_cons w (star_r (is (only 44)) (seq_r (word_r (44 ∷ 32 ∷ [])) λ _. r) n a t)
  turn n (soft p w a t) =
      raise_bind p (fmap (w ∷◌) (star_r (is (only 44)) (seq_r (word_r (44 ∷ 32 ∷ [])) λ _. r) n a t)) (λ vs. seq_r (byte_r (is (only close))) λ _. ret_r (v ∷ vs))
      ∙ (ap (raise p) (rest_cons w (star_r (is (only 44)) (seq_r (word_r (44 ∷ 32 ∷ [])) λ _. r) n a t)) ∙ raise_fmap (v ∷◌) p (rest_r close r n w a t))
  turn n (bad p) = refl

-- the list's own bound, and that it is enough for what is left after the first element
abbrev pub left : {X : Type 0} → Out X → ℕ
left (ok v a t) = length t
left (soft p v a t) = length t
left (bad p) = 0

pub record Bounded {X : Type 0} (close : ℕ) (r : Reader X) (doc : List ℕ) (at : ℕ) : Type 0 where
  pub bound : ℕ
  pub same : list_r close r at (drop at doc) ≡ list_n close r bound at (drop at doc)
  pub enough : (v : X) (a : ℕ) → r at (drop at doc) ≡ ok v a (drop a doc) → length doc ≤ bound + a

pub bounded : {X : Type 0} (close : ℕ) (r : Reader X) (doc : List ℕ) (at : ℕ) → Bounded close r doc at
unfolding list_n
bounded {X} close r doc at =
    record {
      bound = left (r at (drop at doc));
      same = go (r at (drop at doc));
      enough = λ v a h. let l = length-drop a doc in rw h (omega arith);
    }
  where
    go : (o : Out X) → bind o (λ v. seq_r (many_r (is (only 44)) (seq_r (word_r (44 ∷ 32 ∷ [])) λ _. r)) λ vs. seq_r (byte_r (is (only close))) λ _. ret_r (v ∷ vs))
        ≡ bind o (rest_r close r (left o))
    go (ok v a t) = refl
    go (soft p v a t) = refl
    go (bad p) = refl

-- THE LAWS OF A LIST, after an element that ends at a: what follows decides
module _ {X : Type 0} (close : ℕ) (small : close < 256) (other : close ≡ 44 → ⊥) (r : Reader X) (doc : List ℕ) (at a : ℕ) (v : X)
    (h : r at (drop at doc) ≡ ok v a (drop a doc)) where
  more_at : (n : ℕ) → 44 ≡ peek doc a → 32 ≡ peek doc (a + 1)
      → list_n close r (suc n) at (drop at doc) ≡ fmap (v ∷◌) (list_n close r n (a + 2) (drop (a + 2) doc))
  unfolding list_n
  more_at n e f =
      let p : drop a doc ≡ 44 ∷ drop (suc a) doc = peek_cons doc a 44 e (omega arith) in
      let q : drop (suc a) doc ≡ 32 ∷ drop (suc (suc a)) doc = peek_cons doc (suc a) 32 (rw add-one at f) (omega arith) in
      let z : a + 2 ≡ suc (suc a) = omega arith in
      rw (h, p, q, z) (turn close r v n (r (suc (suc a)) (drop (suc (suc a)) doc)))

  pub list_more : (n : ℕ) → length doc ≤ n + a → 44 ≡ peek doc a → 32 ≡ peek doc (a + 1)
      → (m : ℕ) × (list_n close r n at (drop at doc) ≡ fmap (v ∷◌) (list_n close r m (a + 2) (drop (a + 2) doc))) × (length doc ≤ m + (a + 1))
  list_more zero l e f = let i = peek_in doc a 44 e (omega arith) in absurd (omega arith)
  list_more (suc m) l e f = (m, more_at m e f, omega arith)

  pub list_last : (n : ℕ) → close ≡ peek doc a → list_n close r n at (drop at doc) ≡ ok (v ∷ []) (a + 1) (drop (a + 1) doc)
  unfolding list_n
  list_last zero e = let p : drop a doc ≡ close ∷ drop (suc a) doc = peek_cons doc a close e small in rw (h, p, only_is close, add-one) refl
  list_last (suc n) e =
      let p : drop a doc ≡ close ∷ drop (suc a) doc = peek_cons doc a close e small in
      rw (h, p, only_no 44 close other, only_is close, add-one) refl

  pub list_comma : (n : ℕ) → length doc ≤ n + a → 44 ≡ peek doc a → (peek doc (a + 1) ≡ 32 → ⊥) → list_n close r n at (drop at doc) ≡ bad (a + 1)
  unfolding list_n
  list_comma zero l e f = let i = peek_in doc a 44 e (omega arith) in absurd (omega arith)
  list_comma (suc n) l e f =
      let p : drop a doc ≡ 44 ∷ drop (suc a) doc = peek_cons doc a 44 e (omega arith) in
      let q : byte_r (is (only 32)) (suc a) (drop (suc a) doc) ≡ bad (suc a) = rw add-one at (byte_not doc (a + 1) 32 (peek doc (a + 1)) (omega arith) refl f) in
      rw (h, p, q, add-one) refl

  pub list_other : (n : ℕ) → (peek doc a ≡ 44 → ⊥) → (peek doc a ≡ close → ⊥) → list_n close r n at (drop at doc) ≡ bad a
  unfolding list_n
  list_other n e f = rw h (go n (there doc a))
    where
      go : (n : ℕ) → There doc a → rest_r close r n v a (drop a doc) ≡ bad a
      go zero (byte_there p) = rw (p, only_no close (peek doc a) f) refl
      go zero (none_there p k) = rw p refl
      go (suc n) (byte_there p) = rw (p, only_no 44 (peek doc a) e, only_no close (peek doc a) f) refl
      go (suc n) (none_there p k) = rw p refl

pub list_bad : {X : Type 0} (close : ℕ) (r : Reader X) (at : ℕ) (s : List ℕ) (p n : ℕ) → r at s ≡ bad p → list_n close r n at s ≡ bad p
unfolding list_n
list_bad close r at s p n h = rw h refl
