-- What a reader answers, how answers follow one another, and how a reader moves over the text: by whole prefixes, and looking no further than told. Assumes nothing.
use Rattle.std.specs.Prelude.{◌≡◌, refl, List, [], ◌∷◌, ◌++◌, Bool, true, false, ℕ, zero, suc, ◌+◌, ◌-◌, ◌≤◌, ◌<◌, max, min, length, drop}
use Rattle.std.proofs.Common.{sym, ap, subst, ◌∙◌, append_assoc, arith, length-append, length-drop, drop-drop}
use Rattle.std.proofs.Math.Seq.{drop-append_seam}
use Rattle.exact.specs.Verdict.{Res, whole, join, acc, stop}
use Rattle.exact.specs.Class.{pick, is, only}

-- what a reader answers: ok, and nothing longer begins here; soft p, ok too, and what is longer begins as far as p; bad p
pub data Out (X : Type 0) : Type 0 where
  ok : X → ℕ → List ℕ → Out X
  soft : ℕ → X → ℕ → List ℕ → Out X
  bad : ℕ → Out X

abbrev pub Reader : Type 0 → Type 0
Reader X = ℕ → List ℕ → Out X

abbrev pub raise : {X : Type 0} → ℕ → Out X → Out X
raise p (ok v at s) = soft p v at s
raise p (soft q v at s) = soft (max p q) v at s
raise p (bad q) = bad (max p q)

abbrev pub bind : {X U : Type 0} → Out X → (X → ℕ → List ℕ → Out U) → Out U
bind (ok v at s) k = k v at s
bind (soft p v at s) k = raise p (k v at s)
bind (bad p) k = bad p

abbrev pub fmap : {X Y : Type 0} → (X → Y) → Out X → Out Y
fmap g (ok v at s) = ok (g v) at s
fmap g (soft p v at s) = soft p (g v) at s
fmap g (bad p) = bad p

abbrev pub finish : {X W : Type 0} → Out X → (X → ℕ → List ℕ → Res W) → Res W
finish (ok v at s) k = k v at s
finish (soft p v at s) k = join (stop p) (k v at s)
finish (bad p) k = stop p

pub join_join : {W : Type 0} (p q : ℕ) (f : Res W) → join (stop (max p q)) f ≡ join (stop p) (join (stop q) f)
join_join p q (acc w) = refl
join_join p q (stop r) = ap stop (omega arith)

pub finish_raise : {X W : Type 0} (p : ℕ) (o : Out X) (k : X → ℕ → List ℕ → Res W) → finish (raise p o) k ≡ join (stop p) (finish o k)
finish_raise p (ok v at s) k = refl
finish_raise p (soft q v at s) k = join_join p q (k v at s)
finish_raise p (bad q) k = refl

pub finish_bind : {X U W : Type 0} (o : Out X) (q : X → ℕ → List ℕ → Out U) (k : U → ℕ → List ℕ → Res W)
    → finish (bind o q) k ≡ finish o (λ v at s. finish (q v at s) k)
finish_bind (ok v at s) q k = refl
finish_bind (soft p v at s) q k = finish_raise p (q v at s) k
finish_bind (bad p) q k = refl

pub finish_fmap : {X Y W : Type 0} (g : X → Y) (o : Out X) (k : Y → ℕ → List ℕ → Res W) → finish (fmap g o) k ≡ finish o (λ v. k (g v))
finish_fmap g (ok v at s) k = refl
finish_fmap g (soft p v at s) k = refl
finish_fmap g (bad p) k = refl

-- how far the text was seen to begin something
abbrev pub reach : {X : Type 0} → Out X → ℕ
reach (ok v a t) = a
reach (soft p v a t) = max p a
reach (bad p) = p

-- the bytes of a class that a text begins with, and what is behind them
abbrev pub count : (ℕ → Bool) → List ℕ → ℕ
count f [] = 0
count f (b ∷ t) = pick (f b) (suc (count f t)) 0

abbrev pub behind : (ℕ → Bool) → List ℕ → List ℕ
behind f [] = []
behind f (b ∷ t) = pick (f b) (behind f t) (b ∷ t)

-- the spaces that a text begins with: no soft answer looks further
abbrev pub margin : List ℕ → ℕ
margin t = count (is (only 32)) t

pub margin_on : (w t : List ℕ) → margin (w ++ t) ≤ length w + margin t
margin_on [] t = omega arith
margin_on (b ∷ w) t = by (is (only 32) b) (margin_on w t)
  where
    by : (c : Bool) → margin (w ++ t) ≤ length w + margin t → pick c (suc (margin (w ++ t))) 0 ≤ length (b ∷ w) + margin t
    by true h = omega arith
    by false h = omega arith

pub margin_all : (t : List ℕ) → margin t ≤ length t
margin_all [] = omega arith
margin_all (b ∷ t) = by (is (only 32) b) (margin_all t)
  where
    by : (c : Bool) → margin t ≤ length t → pick c (suc (margin t)) 0 ≤ length (b ∷ t)
    by true h = omega arith
    by false h = omega arith

-- from s at `at`, a word of d bytes or more was read, and t is left at a
pub record Moves (d at : ℕ) (s : List ℕ) (a : ℕ) (t : List ℕ) : Type 0 where
  pub word : List ℕ
  pub whole : s ≡ word ++ t
  pub place : a ≡ at + length word
  pub least : d ≤ length word

-- an answer at s, which stands at `at`, is in order
pub data Tamed {X : Type 0} (d at : ℕ) (s : List ℕ) : Out X → Type 0 where
  t_ok : {v : X} {a : ℕ} {t : List ℕ} → Moves d at s a t → Tamed d at s (ok v a t)
  t_soft : {v : X} {a : ℕ} {t : List ℕ} (p : ℕ) → Moves d at s a t → p ≤ a + margin t → Tamed d at s (soft p v a t)
  t_bad : (p : ℕ) → at ≤ p → p ≤ at + length s → Tamed d at s (bad p)

-- A TAME READER reads d bytes or more, leaves what follows them, and refuses nothing before its start or after the end
pub record Tame {X : Type 0} (d : ℕ) (r : Reader X) : Type 0 where
  pub tame : (at : ℕ) (s : List ℕ) → Tamed d at s (r at s)

module _ {d at : ℕ} {s : List ℕ} {a : ℕ} {t : List ℕ} (m : Moves d at s a t) where
  moves_length : length s ≡ length m.word + length t
  moves_length = ap length m.whole ∙ length-append m.word t

  -- SHRINKS: d bytes or more are gone
  pub shrinks : d + length t ≤ length s
  shrinks = omega (arith, moves_length, m.least)

  -- PLACED: place and rest tell each other
  pub placed : a + length t ≡ at + length s
  placed = omega (arith, moves_length, m.place)

  pub forward : at + d ≤ a
  forward = omega (arith, m.place, m.least)

  pub rest_is : t ≡ drop (a - at) s
  rest_is =
      let e : a - at ≡ length m.word = omega (arith, m.place) in
      rw (e, m.whole) (sym (drop-append_seam m.word t))

  -- the spaces seen from the start are seen from the end
  pub margin_kept : at + margin s ≤ a + margin t
  margin_kept =
      let l : margin s ≤ length m.word + margin t = subst (λ (u : List ℕ). margin u ≤ length m.word + margin t) (sym m.whole) (margin_on m.word t) in
      omega (arith, m.place)

  pub moves_trans : {e a' : ℕ} {t' : List ℕ} → Moves e a t a' t' → Moves (d + e) at s a' t'
  moves_trans n =
      record {
        word = m.word ++ n.word;
        whole = m.whole ∙ (ap (m.word ++◌) n.whole ∙ sym (append_assoc m.word n.word _));
        place = omega (arith, m.place, n.place, length-append m.word n.word);
        least = omega (arith, m.least, n.least, length-append m.word n.word);
      }

  pub moves_less : (e : ℕ) → e ≤ d → Moves e at s a t
  moves_less e h = record { word = m.word; whole = m.whole; place = m.place; least = omega (arith, m.least) }

-- in a document the rest after a reader is what the document has from the place on
pub rest_of : {d i a : ℕ} (doc : List ℕ) {t : List ℕ} → Moves d i (drop i doc) a t → t ≡ drop a doc
rest_of {i = i} {a} doc m =
    let e : i + (a - i) ≡ a = omega (arith, forward m) in
    rest_is m ∙ (drop-drop (a - i) i doc ∙ ap (λ (n : ℕ). drop n doc) e)

pub moves_none : (at : ℕ) (s : List ℕ) → Moves 0 at s at s
moves_none at s = record { word = []; whole = refl; place = omega arith; least = omega arith }

pub moves_one : (at b : ℕ) (s : List ℕ) → Moves 1 at (b ∷ s) (suc at) s
moves_one at b s = record { word = b ∷ []; whole = refl; place = omega arith; least = omega arith }

module _ {X : Type 0} where
  pub tamed_trans : {d e at a : ℕ} {s t : List ℕ} {o : Out X} → Moves d at s a t → Tamed e a t o → Tamed (d + e) at s o
  tamed_trans m (t_ok n) = t_ok (moves_trans m n)
  tamed_trans m (t_soft p n l) = t_soft p (moves_trans m n) l
  tamed_trans m (t_bad p l h) = t_bad p (omega (arith, forward m)) (omega (arith, placed m))

  pub tamed_raise : {d at : ℕ} {s : List ℕ} {o : Out X} (p : ℕ) → p ≤ at + margin s → Tamed d at s o → Tamed d at s (raise p o)
  tamed_raise p l (t_ok m) = t_soft p m (omega (arith, margin_kept m))
  tamed_raise p l (t_soft q m h) = t_soft (max p q) m (omega (arith, margin_kept m))
  tamed_raise {s = s} p l (t_bad q h h') = t_bad (max p q) (omega arith) (omega (arith, margin_all s))

  pub tamed_less : {d at : ℕ} {s : List ℕ} {o : Out X} (e : ℕ) → e ≤ d → Tamed d at s o → Tamed e at s o
  tamed_less e l (t_ok m) = t_ok (moves_less m e l)
  tamed_less e l (t_soft p m h) = t_soft p (moves_less m e l) h
  tamed_less e l (t_bad p h h') = t_bad p h h'

  pub tamed_pick : {d at : ℕ} {s : List ℕ} (c : Bool) {o o' : Out X} → Tamed d at s o → Tamed d at s o' → Tamed d at s (pick c o o')
  tamed_pick true x y = x
  tamed_pick false x y = y

pub tamed_fmap : {X Y : Type 0} {d at : ℕ} {s : List ℕ} {o : Out X} (g : X → Y) → Tamed d at s o → Tamed d at s (fmap g o)
tamed_fmap g (t_ok m) = t_ok m
tamed_fmap g (t_soft p m l) = t_soft p m l
tamed_fmap g (t_bad p l h) = t_bad p l h

pub tamed_bind : {X Y : Type 0} {d e at : ℕ} {s : List ℕ} {o : Out X} (q : X → Reader Y) → Tamed d at s o → ((x : X) → Tame e (q x)) → Tamed (d + e) at s (bind o q)
tamed_bind q (t_ok {v = v} {a = a} {t = t} m) e = tamed_trans m ((e v).tame a t)
tamed_bind q (t_soft {v = v} {a = a} {t = t} p m l) e = tamed_trans m (tamed_raise p l ((e v).tame a t))
tamed_bind q (t_bad p l h) e = t_bad p l h

-- a tame reader goes nowhere back
pub reach_raise : {X : Type 0} (p : ℕ) (o : Out X) → reach (raise p o) ≡ max p (reach o)
reach_raise p (ok v a t) = refl
reach_raise p (soft q v a t) = omega arith
reach_raise p (bad q) = refl

pub reach_from : {X : Type 0} {d at : ℕ} {s : List ℕ} {o : Out X} → Tamed d at s o → at ≤ reach o
reach_from (t_ok m) = omega (arith, forward m)
reach_from (t_soft p m l) = omega (arith, forward m)
reach_from (t_bad p l h) = l

pub reach_bind : {X Y : Type 0} {e : ℕ} (o : Out X) (q : X → Reader Y) → ((x : X) → Tame e (q x)) → reach o ≤ reach (bind o q)
reach_bind (ok v a t) q h = reach_from ((h v).tame a t)
reach_bind (soft p v a t) q h = omega (arith, reach_raise p (q v a t), reach_from ((h v).tame a t))
reach_bind (bad p) q h = omega arith

-- FIRM: never soft
pub data Firm {X : Type 0} : Out X → Type 0 where
  f_ok : {v : X} {a : ℕ} {t : List ℕ} → Firm (ok v a t)
  f_bad : {p : ℕ} → Firm (bad p)

pub firm_bind : {X Y : Type 0} {o : Out X} (q : X → Reader Y) → Firm o → ((x : X) (at : ℕ) (s : List ℕ) → Firm (q x at s)) → Firm (bind o q)
firm_bind q (f_ok {v = v} {a = a} {t = t}) h = h v a t
firm_bind q f_bad h = f_bad

pub firm_pick : {X : Type 0} (c : Bool) {o o' : Out X} → Firm o → Firm o' → Firm (pick c o o')
firm_pick true x y = x
firm_pick false x y = y

pub firm_fmap : {X Y : Type 0} {o : Out X} (g : X → Y) → Firm o → Firm (fmap g o)
firm_fmap g f_ok = f_ok
firm_fmap g f_bad = f_bad
