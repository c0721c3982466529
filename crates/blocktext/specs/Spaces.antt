-- THE SPACES BEFORE A LINE, all of them, as code counts them: whether the line is deeper than a column, how far it would begin, and what they are.
use Rattle.std.specs.Prelude.{◌≡◌, refl, List, [], ◌∷◌, ◌++◌, Bool, true, false, ℕ, zero, suc, ◌+◌, ◌-◌, ◌≤◌, ◌<◌, min, length, get_or, take, drop}
use Rattle.std.proofs.Common.{sym, ap, subst, ◌∙◌, arith, length-take, drop-drop, get_or-drop}
use Rattle.std.proofs.Math.Seq.{slice, slice-cons}
use Rattle.language.specs.BlockText.{spaces}
use Rattle.exact.specs.Class.{pick, clash, and, Class, is, only, only_eq, only_is}
use Rattle.exact.specs.Out.{Reader, bind, ok, bad}
use Rattle.exact.specs.Lang.{byte_r}
use Rattle.exact.specs.Comb.{many_r}
use Rattle.exact.specs.Block.{lead, indented_r}
use Rattle.exact.specs.Place.{peek, run, many_run, run_le, run_end}
use Rattle.blocktext.specs.Deeper.{deeper, deeper_r, spaced_r}

-- the spaces that a text begins with
abbrev width : List ℕ → ℕ
width s = run (only 32) s

lead_width : (n : ℕ) (s : List ℕ) → lead n s ≡ min n (width s)
unfolding run
lead_width zero s = omega arith
lead_width (suc n) [] = omega arith
lead_width (suc n) (b ∷ s) = by (is (only 32) b) (lead_width n s)
  where
    by : (x : Bool) → lead n s ≡ min n (width s) → pick x (suc (lead n s)) 0 ≡ min (suc n) (pick x (suc (width s)) 0)
    by true h = omega arith
    by false h = omega arith

deeper_yes : (c : ℕ) (s : List ℕ) → c < width s → deeper c s ≡ true
unfolding run
deeper_yes zero [] l = absurd (omega arith)
deeper_yes (suc c) [] l = absurd (omega arith)
deeper_yes zero (b ∷ s) l = by (is (only 32) b) l
  where
    by : (x : Bool) → 0 < pick x (suc (width s)) 0 → x ≡ true
    by true h = refl
    by false h = absurd (omega arith)
deeper_yes (suc c) (b ∷ s) l = by (is (only 32) b) l (deeper_yes c s)
  where
    by : (x : Bool) → suc c < pick x (suc (width s)) 0 → (c < width s → deeper c s ≡ true) → and x (deeper c s) ≡ true
    by true h ih = ih (omega arith)
    by false h ih = absurd (omega arith)

deeper_no : (c : ℕ) (s : List ℕ) → width s ≤ c → deeper c s ≡ false
unfolding run
deeper_no zero [] l = refl
deeper_no (suc c) [] l = refl
deeper_no zero (b ∷ s) l = by (is (only 32) b) l
  where
    by : (x : Bool) → pick x (suc (width s)) 0 ≤ 0 → x ≡ false
    by true h = absurd (omega arith)
    by false h = refl
deeper_no (suc c) (b ∷ s) l = by (is (only 32) b) l (deeper_no c s)
  where
    by : (x : Bool) → pick x (suc (width s)) 0 ≤ suc c → (width s ≤ c → deeper c s ≡ false) → and x (deeper c s) ≡ false
    by true h ih = ih (omega arith)
    by false h ih = refl

deeper_reads : {X : Type 0} (q : ℕ → Reader X) (c at : ℕ) (s : List ℕ) → c < width s → deeper_r c q at s ≡ q (width s - suc c) (at + width s) (drop (width s) s)
unfolding run
deeper_reads q zero at [] l = absurd (omega arith)
deeper_reads q (suc c) at [] l = absurd (omega arith)
deeper_reads {X} q zero at (b ∷ s) l = by (is (only 32) b) l
  where
    by : (x : Bool) → 0 < pick x (suc (width s)) 0
        → bind (pick x (ok b (suc at) s) (bad at)) (λ _ a t. bind (many_r (is (only 32)) (byte_r (is (only 32))) a t) (λ ss. q (length ss)))
        ≡ q (pick x (suc (width s)) 0 - 1) (at + pick x (suc (width s)) 0) (drop (pick x (suc (width s)) 0) (b ∷ s))
    by true h =
        let e : length (take (width s) s) ≡ suc (width s) - 1 = let k = run_le (only 32) s in length-take (width s) s ∙ omega arith in
        let f : suc at + width s ≡ at + suc (width s) = omega arith in
        rw (many_run (only 32) (suc at) s, e, f) refl
    by false h = absurd (omega arith)
deeper_reads {X} q (suc c) at (b ∷ s) l = by (is (only 32) b) l (deeper_reads q c (suc at) s)
  where
    by : (x : Bool) → suc c < pick x (suc (width s)) 0
        → (c < width s → deeper_r c q (suc at) s ≡ q (width s - suc c) (suc at + width s) (drop (width s) s))
        → bind (pick x (ok b (suc at) s) (bad at)) (λ _. indented_r c (spaced_r q))
        ≡ q (pick x (suc (width s)) 0 - suc (suc c)) (at + pick x (suc (width s)) 0) (drop (pick x (suc (width s)) 0) (b ∷ s))
    by true h ih =
        let e : width s - suc c ≡ suc (width s) - suc (suc c) = omega arith in
        let f : suc at + width s ≡ at + suc (width s) = omega arith in
        rw (← e, ← f) (ih (omega arith))
    by false h ih = absurd (omega arith)

-- AT A PLACE a of a document, with the spaces up to s
module _ (doc : List ℕ) (a s : ℕ) (e : s ≡ run_end (only 32) doc a) where
  pub deep : (c : ℕ) → a + c < s → deeper c (drop a doc) ≡ true
  deep c l = deeper_yes c (drop a doc) (omega arith)

  pub shallow : (c : ℕ) → s ≤ a + c → deeper c (drop a doc) ≡ false
  shallow c l = deeper_no c (drop a doc) (omega arith)

  pub shallow_far : (c : ℕ) → s ≤ a + c → s ≡ a + lead c (drop a doc)
  shallow_far c l = let h = lead_width c (drop a doc) in omega arith

  pub deep_reads : {X : Type 0} (q : ℕ → Reader X) (c : ℕ) → a + c < s → deeper_r c q a (drop a doc) ≡ q (s - (a + suc c)) s (drop s doc)
  deep_reads q c l =
      let x : width (drop a doc) - suc c ≡ s - (a + suc c) = omega arith in
      deeper_reads q c a (drop a doc) (omega arith)
      ∙ (ap (λ n. q n (a + width (drop a doc)) (drop (width (drop a doc)) (drop a doc))) x
      ∙ (ap (q (s - (a + suc c)) (a + width (drop a doc))) (drop-drop (width (drop a doc)) a doc) ∙ ap (λ n. q (s - (a + suc c)) n (drop n doc)) (sym e)))

-- WHAT THEY ARE
run_byte : (c : Class) (s : List ℕ) (k : ℕ) → k < run c s → is c (get_or s k 256) ≡ true
unfolding run
run_byte c [] k l = absurd (omega arith)
run_byte c (b ∷ s) zero l = by (is c b) l
  where
    by : (x : Bool) → 0 < pick x (suc (run c s)) 0 → x ≡ true
    by true h = refl
    by false h = absurd (omega arith)
run_byte c (b ∷ s) (suc k) l = by (is c b) l (run_byte c s k)
  where
    by : (x : Bool) → suc k < pick x (suc (run c s)) 0 → (k < run c s → is c (get_or s k 256) ≡ true) → is c (get_or s k 256) ≡ true
    by true h ih = ih (omega arith)
    by false h ih = absurd (omega arith)

run_stop : (c : Class) → is c 256 ≡ false → (s : List ℕ) → is c (get_or s (run c s) 256) ≡ false
unfolding run
run_stop c n [] = n
run_stop c n (b ∷ s) = by (is c b) refl (run_stop c n s)
  where
    by : (x : Bool) → is c b ≡ x → is c (get_or s (run c s) 256) ≡ false → is c (get_or (b ∷ s) (pick x (suc (run c s)) 0) 256) ≡ false
    by true e h = h
    by false e h = e

pub space_in : (doc : List ℕ) (a s : ℕ) → s ≡ run_end (only 32) doc a → (j : ℕ) → a ≤ j → j < s → peek doc j ≡ 32
space_in doc a s e j l h =
    let k : a + (j - a) ≡ j = omega arith in
    only_eq 32 (peek doc j) (subst (λ n. is (only 32) (get_or doc n 256) ≡ true) k (subst (λ b. is (only 32) b ≡ true) (get_or-drop a doc (j - a) 256) (run_byte (only 32) (drop a doc) (j - a) (omega arith))))

pub no_space : (doc : List ℕ) (a s : ℕ) → s ≡ run_end (only 32) doc a → peek doc s ≡ 32 → ⊥
no_space doc a s e h =
    let x : is (only 32) (peek doc s) ≡ false = rw e (subst (λ b. is (only 32) b ≡ false) (get_or-drop a doc (width (drop a doc)) 256) (run_stop (only 32) refl (drop a doc))) in
    clash (ap (is (only 32)) h ∙ only_is 32) x

pub slice_front : (doc : List ℕ) (n j s e : ℕ) → j + n ≡ s → s ≤ e → e ≤ length doc → ((i : ℕ) → j ≤ i → i < s → peek doc i ≡ 32)
    → slice j e doc ≡ spaces n ++ slice s e doc
slice_front doc zero j s e h k l b = let z : j ≡ s = omega arith in ap (λ i. slice i e doc) z
slice_front doc (suc n) j s e h k l b =
    slice-cons j e doc 256 (omega arith) l
    ∙ (ap (◌∷ slice (suc j) e doc) (b j (omega arith) (omega arith)) ∙ ap (32 ∷◌) (slice_front doc n (suc j) s e (omega arith) k l (λ i x y. b i (omega arith) y)))
