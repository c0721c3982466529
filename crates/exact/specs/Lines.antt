-- Blocks at a place of a document: lines of n spaces, and how far a longer block would begin. The bridge of Place, for what is read by indentation. Assumes nothing.
use Rattle.std.specs.Prelude.{◌≡◌, List, [], ◌∷◌, ◌++◌, Bool, true, false, ℕ, zero, suc, ◌+◌, ◌-◌, ◌≤◌, ◌<◌, length, get_or, drop}
use Rattle.std.proofs.Math.Path.{refl}
use Rattle.std.proofs.Common.{sym, ap, subst, ◌∙◌, add-one, arith, drop_of_length-le, drop-cons}
use Rattle.exact.specs.Out.{Out, ok, soft, bad, raise, bind, Reader}
use Rattle.exact.specs.Lang.{byte_r}
use Rattle.exact.specs.Class.{pick, Class, is, only, only_no, only_yes, and}
use Rattle.exact.specs.Block.{indented_r, ind}
use Rattle.exact.specs.Place.{peek, There, byte_there, none_there, there}

-- A LINE OF n SPACES: how many of them stand at the front
unfoldable pub spaces : ℕ → List ℕ → ℕ
spaces zero s = 0
spaces (suc n) [] = 0
spaces (suc n) (b ∷ s) = pick (is (only 32) b) (suc (spaces n s)) 0

pub indented_ok : {X : Type 0} (n : ℕ) (r : Reader X) (at : ℕ) (s : List ℕ) → spaces n s ≡ n → indented_r n r at s ≡ r (at + n) (drop n s)
unfolding spaces
indented_ok zero r at s h = ap (λ k. r k s) (omega arith)
indented_ok (suc n) r at [] h = absurd (omega arith)
indented_ok {X} (suc n) r at (b ∷ s) h = go (is (only 32) b) h (indented_ok n r (suc at) s)
  where
    go : (y : Bool) → pick y (suc (spaces n s)) 0 ≡ suc n → (spaces n s ≡ n → indented_r n r (suc at) s ≡ r (suc at + n) (drop n s))
        → bind (pick y (ok b (suc at) s) (bad at)) (λ _. indented_r n r) ≡ r (at + suc n) (drop n s)
    go true k ih = ih (omega arith) ∙ ap (λ i. r i (drop n s)) (omega arith)
    go false k ih = absurd (omega arith)

pub indented_bad : {X : Type 0} (n : ℕ) (r : Reader X) (at : ℕ) (s : List ℕ) → spaces n s < n → indented_r n r at s ≡ bad (at + spaces n s)
unfolding spaces
indented_bad zero r at s h = absurd (omega arith)
indented_bad (suc n) r at [] h = ap bad (omega arith)
indented_bad {X} (suc n) r at (b ∷ s) h = go (is (only 32) b) h (indented_bad n r (suc at) s)
  where
    go : (y : Bool) → pick y (suc (spaces n s)) 0 < suc n → (spaces n s < n → indented_r n r (suc at) s ≡ bad (suc at + spaces n s))
        → bind (pick y (ok b (suc at) s) (bad at)) (λ _. indented_r n r) ≡ bad (at + pick y (suc (spaces n s)) 0)
    go true k ih = ih (omega arith) ∙ ap bad (omega arith)
    go false k ih = ap bad (omega arith)

pub ind_short : (f : ℕ → Bool) (n : ℕ) (s : List ℕ) → spaces n s < n → ind f n s ≡ false
unfolding spaces
ind_short f zero s h = absurd (omega arith)
ind_short f (suc n) [] h = refl
ind_short f (suc n) (b ∷ s) h = go (is (only 32) b) h (ind_short f n s)
  where
    go : (y : Bool) → pick y (suc (spaces n s)) 0 < suc n → (spaces n s < n → ind f n s ≡ false) → and y (ind f n s) ≡ false
    go true k ih = ih (omega arith)
    go false k ih = refl

pub ind_full : (f : ℕ → Bool) (n : ℕ) (s : List ℕ) → spaces n s ≡ n → ind f n s ≡ ind f 0 (drop n s)
unfolding spaces
ind_full f zero s h = refl
ind_full f (suc n) [] h = absurd (omega arith)
ind_full f (suc n) (b ∷ s) h = go (is (only 32) b) h (ind_full f n s)
  where
    go : (y : Bool) → pick y (suc (spaces n s)) 0 ≡ suc n → (spaces n s ≡ n → ind f n s ≡ ind f 0 (drop n s)) → and y (ind f n s) ≡ ind f 0 (drop n s)
    go true k ih = ih (omega arith)
    go false k ih = absurd (omega arith)

pub ind_peek : (c : Class) (doc : List ℕ) (at : ℕ) → is c 256 ≡ false → ind (is c) 0 (drop at doc) ≡ is c (peek doc at)
ind_peek c doc at e = go (there doc at)
  where
    go : There doc at → ind (is c) 0 (drop at doc) ≡ is c (peek doc at)
    go (byte_there h) = ap (ind (is c) 0) h
    go (none_there h k) = ap (ind (is c) 0) h ∙ sym (ap (is c) k ∙ e)

-- what a loop over the spaces learns
module _ (n at : ℕ) (doc : List ℕ) where
  pub spaces_more : at < length doc → get_or doc at 0 ≡ 32 → spaces (suc n) (drop at doc) ≡ suc (spaces n (drop (at + 1) doc))
  unfolding spaces
  spaces_more l e = rw (drop-cons doc at 0 l, only_yes 32 (get_or doc at 0) e, add-one) refl

  pub spaces_other : at < length doc → (get_or doc at 0 ≡ 32 → ⊥) → spaces (suc n) (drop at doc) ≡ 0
  unfolding spaces
  spaces_other l e = rw (drop-cons doc at 0 l, only_no 32 (get_or doc at 0) e) refl

  pub spaces_over : length doc ≤ at → spaces (suc n) (drop at doc) ≡ 0
  unfolding spaces
  spaces_over l = rw (drop_of_length-le doc l) refl

-- HOW FAR: `reached far` is ok, or soft where a longer one begins as far as `far`
abbrev pub reached : {X : Type 0} → ℕ → X → ℕ → List ℕ → Out X
reached zero v a t = ok v a t
reached (suc p) v a t = soft (suc p) v a t

abbrev pub raised : {X : Type 0} → ℕ → Out X → Out X
raised zero o = o
raised (suc p) o = raise (suc p) o

pub bind_reached : {X Y : Type 0} (far : ℕ) (v : X) (a : ℕ) (t : List ℕ) (q : X → Reader Y) → bind (reached far v a t) q ≡ raised far (q v a t)
bind_reached zero v a t q = refl
bind_reached (suc p) v a t q = refl

pub raised_ok : {X : Type 0} (f : ℕ) (v : X) (a : ℕ) (t : List ℕ) → raised f (ok v a t) ≡ reached f v a t
raised_ok zero v a t = refl
raised_ok (suc f) v a t = refl

pub soft_reached : {X : Type 0} (p : ℕ) (v : X) (a : ℕ) (t : List ℕ) → 0 < p → soft p v a t ≡ reached p v a t
soft_reached zero v a t h = absurd (omega arith)
soft_reached (suc p) v a t h = refl
