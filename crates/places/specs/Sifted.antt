-- KEYS THAT PASS A FILTER: a large room notes them in its log, or sieves them; and whatever key comes twice among them is found again. Assumes nothing.
use Rattle.std.specs.Prelude.{◌≡◌, ℕ, ◌+◌, ◌/◌, ◌<◌, ◌≤◌, Bool, true, false, List, [], ◌∷◌, length, take, ◌≢◌, slice_index, refl}
use Rattle.std.proofs.Common.{sym, ap, ◌∙◌, arith}
use Rattle.notation.specs.Class.{pick}
use Rattle.spelt.specs.Texts.{key_text}
use Rattle.spelt.specs.Hash.{hash_of}
use Rattle.sieve.specs.Sieve.{hits, filter, large, Mark, mark, Has, has_here, has_later, Double, double_here, double_later, Sieved}
use Rattle.notes.specs.Flat.{Named, named}
use Rattle.notes.specs.Lie.{Keys, keys_more}
use Rattle.notes.specs.Noted.{noted, noteds, length_noted}
use Rattle.notes.specs.Handed.{log, mode, round, factor_of, key_class, passing, Sifts, Took, took_none, took_more}
use Rattle.repeats.specs.Flat.{In, in_here, in_later, Twice, twice_here, twice_later}
use Rattle.places.specs.Chosen.{Some, some_none, some_take, some_pass}

-- those that pass
unfoldable pub sift : List ℕ → List Named → List Named
sift S [] = []
sift S (named q a s ∷ ks) = pick (passing S q s) (named q a s ∷ sift S ks) (sift S ks)

pub sift_some : (S : List ℕ) (ks : List Named) → Some (sift S ks) ks
unfolding sift
sift_some S [] = some_none
sift_some S (named q a s ∷ ks) = by (passing S q s) (sift_some S ks)
  where
    by : (b : Bool) → Some (sift S ks) ks → Some (pick b (named q a s ∷ sift S ks) (sift S ks)) (named q a s ∷ ks)
    by true x = some_take x
    by false x = some_pass x

-- ---- rooms with one filter

pub record SameFilter (S S' : List ℕ) : Type 0 where
  pub long : length S' ≡ length S
  pub between : (i : ℕ) → log ≤ i → i < hits → slice_index S' i ≡ slice_index S i
  pub above : (i : ℕ) → filter ≤ i → slice_index S' i ≡ slice_index S i

same_self : (S : List ℕ) → SameFilter S S
same_self S = record { long = refl; between = λ i l m. refl; above = λ i l. refl }

same_then : {S S' S'' : List ℕ} → SameFilter S S' → SameFilter S' S'' → SameFilter S S''
same_then x y = record { long = y.long ∙ x.long; between = λ i l m. y.between i l m ∙ x.between i l m; above = λ i l. y.above i l ∙ x.above i l }

pub same_passing : {S S' : List ℕ} → SameFilter S S' → (q : ℕ) (s : List ℕ) → passing S' q s ≡ passing S q s
unfolding passing
same_passing {S} {S'} x q s =
    let e = x.between round (omega arith) (omega arith) in
    let f = x.above (filter + key_class (slice_index S round) q s / 32) (omega arith) in
    rw (e, f) refl

pub same_sift : {S S' : List ℕ} → SameFilter S S' → (ks : List Named) → sift S' ks ≡ sift S ks
unfolding sift
same_sift x [] = refl
same_sift x (named q a s ∷ ks) = rw (same_passing x q s, same_sift x ks) refl

-- ---- what a pass over the keys leaves

-- in a small room
pub took_plain : {doc S S' : List ℕ} {ks : List Named} → Took doc S ks S' → (length S ≢ large) → S' ≡ noteds S ks
unfolding noteds
took_plain took_none n = refl
took_plain {S = S} (took_more {S' = T} {q = q} {a = a} {ns = ns} x y) n =
    let e = x.plain n in
    let m : length T ≡ large → ⊥ = λ f. n (sym (length_noted S q a) ∙ (ap length (sym e) ∙ f)) in
    took_plain y m ∙ ap (λ (u : List ℕ). noteds u ns) e

handed_same : {doc S S' : List ℕ} {q a : ℕ} → Sifts doc S q a S' → SameFilter S S'
handed_same x = record { long = x.long; between = x.between; above = x.above }

-- in the log of a large one
pub record Listed (S : List ℕ) (ks : List Named) (S' : List ℕ) : Type 0 where
  pub same : SameFilter S S'
  pub log : take log S' ≡ noteds (take log S) (sift S ks)

pub took_listed : {doc S S' : List ℕ} {b e : ℕ} (ks : List Named) → Took doc S ks S' → Keys doc b ks e → length S ≡ large → slice_index S mode ≡ 0 → Listed S ks S'
unfolding noteds sift
took_listed {S = S} [] took_none k l m = record { same = same_self S; log = refl }
took_listed {doc} {S} {S'} (named q a s ∷ ks) (took_more {S' = T} x y) (keys_more {m = z} h k r) l m =
    let u = x.sifts l in
    let f = handed_same u in
    let i = took_listed ks y r (f.long ∙ l) (f.between mode (omega arith) (omega arith) ∙ m) in
    record { same = same_then f i.same; log = by (passing S q s) refl u f i.log }
  where
    by : (b : Bool) → passing S q s ≡ b → Sifts doc S q a T → SameFilter S T → take log S' ≡ noteds (take log T) (sift T ks)
        → take log S' ≡ noteds (take log S) (pick b (named q a s ∷ sift S ks) (sift S ks))
    by true p u f g =
        let v : take log T ≡ noted (take log S) q a = u.noting m (rw (key_text doc a z s k) p) in
        g ∙ rw (v, same_sift f ks) refl
    by false p u f g =
        let v : T ≡ S = u.passed (rw (key_text doc a z s k) p) in
        g ∙ rw v refl

-- in the sieve of a large one
unfoldable pub sown : List ℕ → List Mark → List Named → List Mark
sown S zs [] = zs
sown S zs (named q a s ∷ ks) = sown S (pick (passing S q s) (mark q (hash_of (factor_of (slice_index S round + 1)) q s) ∷ zs) zs) ks

same_sown : {S S' : List ℕ} → SameFilter S S' → (zs : List Mark) (ks : List Named) → sown S' zs ks ≡ sown S zs ks
unfolding sown
same_sown x zs [] = refl
same_sown {S} x zs (named q a s ∷ ks) =
    let e = x.between round (omega arith) (omega arith) in
    rw (same_passing x q s, e) (same_sown x (pick (passing S q s) (mark q (hash_of (factor_of (slice_index S round + 1)) q s) ∷ zs) zs) ks)

pub record Sowed (S : List ℕ) (zs : List Mark) (ks : List Named) (S' : List ℕ) : Type 0 where
  pub same : SameFilter S S'
  pub sieved : Sieved (sown S zs ks) S'

pub took_sown : {doc S S' : List ℕ} {b e : ℕ} (zs : List Mark) (ks : List Named) → Took doc S ks S' → Keys doc b ks e → length S ≡ large → (slice_index S mode ≢ 0) → Sieved zs S → Sowed S zs ks S'
unfolding sown
took_sown {S = S} zs [] took_none k l m v = record { same = same_self S; sieved = v }
took_sown {doc} {S} {S'} zs (named q a s ∷ ks) (took_more {S' = T} x y) (keys_more {m = z} h k r) l m v =
    let u = x.sifts l in
    let f = handed_same u in
    let g = f.between mode (omega arith) (omega arith) in
    let i = took_sown (next (passing S q s)) ks y r (f.long ∙ l) (λ e. m (sym g ∙ e)) (by (passing S q s) refl u) in
    record { same = same_then f i.same; sieved = rw (sym (same_sown f (next (passing S q s)) ks)) i.sieved }
  where
    next : Bool → List Mark
    next b = pick b (mark q (hash_of (factor_of (slice_index S round + 1)) q s) ∷ zs) zs

    by : (b : Bool) → passing S q s ≡ b → Sifts doc S q a T → Sieved (next b) T
    by true p u = rw (key_text doc a z s k) at (u.sieving m (rw (key_text doc a z s k) p) zs v)
    by false p u = let w : T ≡ S = u.passed (rw (key_text doc a z s k) p) in rw w v

-- ---- what comes twice

-- a key of the object q with the text s comes twice
pub data Both (q : ℕ) (s : List ℕ) : List Named → Type 0 where
  both_here : {a b : ℕ} {ns : List Named} → In q b s ns → Both q s (named q a s ∷ ns)
  both_later : {n : Named} {ns : List Named} → Both q s ns → Both q s (n ∷ ns)

module _ (S : List ℕ) (q : ℕ) (s : List ℕ) (p : passing S q s ≡ true) where
  abbrev h : ℕ
  h = hash_of (factor_of (slice_index S round + 1)) q s

  has_kept : (b : Bool) (z : Mark) (zs : List Mark) → Has q h zs → Has q h (pick b (z ∷ zs) zs)
  has_kept true z zs x = has_later x
  has_kept false z zs x = x

  double_kept : (b : Bool) (z : Mark) (zs : List Mark) → Double q h zs → Double q h (pick b (z ∷ zs) zs)
  double_kept true z zs x = double_later x
  double_kept false z zs x = x

  sown_double : (zs : List Mark) (ks : List Named) → Double q h zs → Double q h (sown S zs ks)
  unfolding sown
  sown_double zs [] x = x
  sown_double zs (named r a t ∷ ks) x = sown_double (pick (passing S r t) (mark r (hash_of (factor_of (slice_index S round + 1)) r t) ∷ zs) zs) ks (double_kept (passing S r t) _ zs x)

  in_double : (zs : List Mark) (ks : List Named) {a : ℕ} → Has q h zs → In q a s ks → Double q h (sown S zs ks)
  unfolding sown
  in_double zs [] {a = a} x x3 = elim x3 [ ]
  in_double zs (_ ∷ ks) x in_here = sown_double _ ks (rw p (double_here x))
  in_double zs (named r a t ∷ ks) x (in_later i) = in_double (pick (passing S r t) (mark r (hash_of (factor_of (slice_index S round + 1)) r t) ∷ zs) zs) ks (has_kept (passing S r t) _ zs x) i

  pub both_double : (zs : List Mark) (ks : List Named) → Both q s ks → Double q h (sown S zs ks)
  unfolding sown
  both_double zs [] x' = elim x' [ ]
  both_double zs (_ ∷ ks) (both_here i) = in_double _ ks (rw p has_here) i
  both_double zs (named r a t ∷ ks) (both_later x) = both_double (pick (passing S r t) (mark r (hash_of (factor_of (slice_index S round + 1)) r t) ∷ zs) zs) ks x

  in_sift : (ks : List Named) {a : ℕ} → In q a s ks → In q a s (sift S ks)
  unfolding sift
  in_sift [] {a = a} x' = elim x' [ ]
  in_sift (_ ∷ ks) in_here = rw p in_here
  in_sift (named r b t ∷ ks) {a} (in_later i) = by (passing S r t) (in_sift ks i)
    where
      by : (c : Bool) → In q a s (sift S ks) → In q a s (pick c (named r b t ∷ sift S ks) (sift S ks))
      by true x = in_later x
      by false x = x

-- THE FILTER keeps all keys that come twice
pub record Claims (S : List ℕ) (ks : List Named) : Type 0 where
  pub claim : (q : ℕ) (s : List ℕ) → Both q s ks → passing S q s ≡ true

pub twice_sifted : (S : List ℕ) (ks : List Named) {p : ℕ} → Claims S ks → Twice p ks → Twice p (sift S ks)
unfolding sift
twice_sifted S [] {p = p} c x'' = elim x'' [ ]
twice_sifted S (_ ∷ ks) c (twice_here {q = q} {s = s} i) =
    let v = c.claim q s (both_here i) in
    rw v (twice_here (in_sift S q s v ks i))
twice_sifted S (named r b t ∷ ks) {p} c (twice_later x) = by (passing S r t) (twice_sifted S ks (record { claim = λ q s y. c.claim q s (both_later y) }) x)
  where
    by : (d : Bool) → Twice p (sift S ks) → Twice p (pick d (named r b t ∷ sift S ks) (sift S ks))
    by true y = twice_later y
    by false y = y

-- what is named twice comes twice
pub record Named-twice (ks : List Named) : Type 0 where
  pub object : ℕ
  pub text : List ℕ
  pub both : Both object text ks

pub twice_both : {p : ℕ} {ks : List Named} → Twice p ks → Named-twice ks
twice_both (twice_here {q = q} {s = s} i) = record { object = q; text = s; both = both_here i }
twice_both (twice_later x) = let y = twice_both x in record { object = y.object; text = y.text; both = both_later y.both }
