-- Combinators: one after the other, one or the other by the first byte, as many as there are by the first byte, two at once. Assumes nothing.
use Rattle.std.specs.Prelude.{◌≡◌, refl, List, [], ◌∷◌, ◌++◌, ◌⊎◌, Bool, true, false, ℕ, zero, suc, ◌+◌, ◌-◌, ◌≤◌, ◌<◌, max, min, length, take, drop}
use Rattle.std.proofs.Common.{sym, ap, subst, ◌∙◌, append_assoc, inl, inr, arith}
pub use Rattle.notation.specs.Lang.{Seq, ◌>>=◌, ◌>>◌, Map, Alt, one, two, Star, nil, cons, cat}
use Rattle.exact.specs.Verdict.{Tail, Res, Begins, either, Verdict, same, join, union, early, early_end, acc, stop, stops}
use Rattle.exact.specs.Class.{Starts, pick, clash, apart, Class, is}
use Rattle.exact.specs.Out.{Out, Reader, raise, bind, fmap, finish, finish_raise, finish_bind, finish_fmap, reach, count, behind, Tamed, Tame, moves_none, tamed_less, tamed_pick, tamed_fmap, tamed_bind, ok, soft, bad, t_ok, t_soft, t_bad}
use Rattle.exact.specs.Lang.{Lang, Then, Follow, bar, Fits, fits_bar, Exact, within_none, within_same, weaken, Ret, ret_r, ret_then, ret_exact, byte_r, ret}

abbrev pub seq_r : {X Y : Type 0} → Reader X → (X → Reader Y) → Reader Y
seq_r r q at s = bind (r at s) q

pub seq_tame : {X Y : Type 0} {d e : ℕ} {r : Reader X} {q : X → Reader Y} → Tame d r → ((x : X) → Tame e (q x)) → Tame (d + e) (seq_r r q)
seq_tame {r = r} {q} m n = record { tame = λ at s. tamed_bind q (m.tame at s) n }

-- in general: what may follow the second lets the second follow the first
pub seq_fits : {X Y : Type 0} {d e : ℕ} {A : Lang X} {B : X → Lang Y} {F G : Follow} {r : Reader X} {q : X → Reader Y}
    → Exact d A F r → ((x : X) → Exact e (B x) G (q x))
    → ((W : Type 0) (K : Y → ℕ → Tail W) → Fits G K → Fits F (λ x. Then (B x) K))
    → Exact (d + e) (Seq A B) G (seq_r r q)
seq_fits {X} {Y} {d} {e} {A} {B} {F} {G} {r} {q} ea eb fits =
    record {
      run = λ K k ne fi at s h.
          rw finish_bind
          (same
          (λ t w x.
          record {
            value = x.others.value;
            next = x.others.next;
            rest = x.others.rest;
            first = record { value = x.value; middle = x.next; rest = x.rest; first = x.first; second = x.others.first };
            others = x.others.others;
          })
          (λ t w x.
          record {
            value = x.first.value;
            next = x.first.middle;
            rest = x.first.rest;
            first = x.first.first;
            others = record { value = x.value; next = x.next; rest = x.rest; first = x.first.second; others = x.others };
          })
          (ea.run
          (λ x a. Then (B x) K a)
          (λ x a s'. finish (q x a s') k)
          (λ x a. (eb x).some K ne a)
          (fits _ K fi)
          at
          s
          (λ x a s' l. (eb x).run K k ne fi a s' (λ y a'' s'' l'. h y a'' s'' (omega arith)))));
      some = λ K ne at.
          let n = ea.some (λ x a. Then (B x) K a) (λ x a. (eb x).some K ne a) at in
          record {
            more = n.more;
            value = n.value;
            word =
                record {
                  value = n.word.others.value;
                  next = n.word.others.next;
                  rest = n.word.others.rest;
                  first = record { value = n.word.value; middle = n.word.next; rest = n.word.rest; first = n.word.first; second = n.word.others.first };
                  others = n.word.others.others;
                };
          };
      moves = seq_tame ea.moves (λ x. (eb x).moves);
    }

-- the first eats nothing
pub seq_exact : {X Y : Type 0} {d e : ℕ} {A : Lang X} {B : X → Lang Y} {F : List ℕ → Type 0} {G : Follow} {r : Reader X} {q : X → Reader Y}
    → Exact d A (bar F) r → ((x : X) → Exact e (B x) G (q x))
    → ((x : X) (at : ℕ) (s : List ℕ) (y : Y) (at' : ℕ) (t : List ℕ) → B x at s y at' t → (G.bars t → ⊥) → F s → ⊥)
    → Exact (d + e) (Seq A B) G (seq_r r q)
seq_exact ea eb apart =
    seq_fits ea eb (λ W K fi. fits_bar (λ x a t w y. apart x a t y.value y.next y.rest y.first (fi.clear y.value y.next y.rest w y.others)))

abbrev pub map_r : {X Y : Type 0} → (X → Y) → Reader X → Reader Y
map_r g r = seq_r r (λ x. ret_r (g x))

pub map_exact : {X Y : Type 0} {d : ℕ} {A : Lang X} {F : Follow} {r : Reader X} (g : X → Y) → Exact d A F r → Exact d (Map g A) F (map_r g r)
map_exact {X} {Y} {d} {F = F} g e =
    weaken d F (omega arith) (within_same F) (seq_fits e (λ x. weaken 0 F (omega arith) (within_none F) (ret_exact (g x))) fits)
  where
    fits : (W : Type 0) (K : Y → ℕ → Tail W) → Fits F K → Fits F (λ x. Then (Ret (g x)) K)
    fits W K fi =
        record {
          clear = λ x a t w y. fi.clear (g x) a t w (ret_then K y.first y.others);
          gives = λ x a b t w y e.
              record { value = g x; next = suc a; rest = t; first = ret; others = fi.gives (g x) a b t w (ret_then K y.first y.others) e };
        }

module _ {X W : Type 0} (A B : Lang X) (K : X → ℕ → Tail W) (at : ℕ) where
  alt_to : (t : List ℕ) (w : W) → either (Then A K at) (Then B K at) t w → Then (Alt A B) K at t w
  alt_to t w (inl x) = record { value = x.value; next = x.next; rest = x.rest; first = one x.first; others = x.others }
  alt_to t w (inr x) = record { value = x.value; next = x.next; rest = x.rest; first = two x.first; others = x.others }

  alt_from : (t : List ℕ) (w : W) → Then (Alt A B) K at t w → either (Then A K at) (Then B K at) t w
  alt_from t w x = go x.value x.next x.rest x.first x.others
    where
      go : (v : X) (a : ℕ) (t' : List ℕ) → Alt A B at t v a t' → K v a t' w → either (Then A K at) (Then B K at) t w
      go v a t' (one y) z = inl (record { value = v; next = a; rest = t'; first = y; others = z })
      go v a t' (two y) z = inr (record { value = v; next = a; rest = t'; first = y; others = z })

pub flip : {W : Type 0} (P Q : Tail W) (t : List ℕ) (w : W) → either P Q t w → either Q P t w
flip P Q t w (inl x) = inr x
flip P Q t w (inr x) = inl x

abbrev pub alt_r : {X : Type 0} → (ℕ → Bool) → Reader X → Reader X → Reader X
alt_r f r q at [] = q at []
alt_r f r q at (b ∷ s) = pick (f b) (r at (b ∷ s)) (q at (b ∷ s))

-- one, or nothing
abbrev pub option_r : Class → Reader (List ℕ) → Reader (List ℕ)
option_r c r = alt_r (is c) r (ret_r [])

pub alt_tame : {X : Type 0} {d : ℕ} {r q : Reader X} (f : ℕ → Bool) → Tame d r → Tame d q → Tame d (alt_r f r q)
alt_tame {d = d} {r} {q} f m n = record { tame = go }
  where
    go : (at : ℕ) (s : List ℕ) → Tamed d at s (alt_r f r q at s)
    go at [] = n.tame at []
    go at (b ∷ s) = tamed_pick (f b) (m.tame at (b ∷ s)) (n.tame at (b ∷ s))

pub alt_exact : {X : Type 0} {d : ℕ} {A B : Lang X} {F : Follow} {r q : Reader X} (f : ℕ → Bool)
    → ((at : ℕ) (s : List ℕ) (v : X) (at' : ℕ) (t : List ℕ) → A at s v at' t → Starts f s)
    → ((at : ℕ) (s : List ℕ) (v : X) (at' : ℕ) (t : List ℕ) → B at s v at' t → (F.bars t → ⊥) → Starts f s → ⊥)
    → Exact d A F r → Exact d B F q → Exact d (Alt A B) F (alt_r f r q)
alt_exact {X} {d} {A} {B} {F} {r} {q} f starts avoids ea eb =
    record { run = λ K k ne fi at s h. go K k ne fi at s h; some = more; moves = alt_tame f ea.moves eb.moves }
  where
    more : {W : Type 0} (K : X → ℕ → Tail W) → ((v : X) (at : ℕ) → Begins (K v at) []) → (at : ℕ) → Begins (Then (Alt A B) K at) []
    more K ne at =
        let n = ea.some K ne at in
        record { more = n.more; value = n.value; word = alt_to A B K at _ _ (inl n.word) }

    go : {W : Type 0} (K : X → ℕ → Tail W) (k : X → ℕ → List ℕ → Res W) (ne : (v : X) (at : ℕ) → Begins (K v at) [])
        → Fits F K → (at : ℕ) (s : List ℕ)
        → ((v : X) (at' : ℕ) (s' : List ℕ) → d + length s' ≤ length s → Verdict (K v at') at' s' (k v at' s'))
        → Verdict (Then (Alt A B) K at) at s (finish (alt_r f r q at s) k)
    go K k ne fi at [] h =
        same
        (λ t w x. alt_to A B K at t w (flip (Then B K at) (Then A K at) t w x))
        (λ t w x. flip (Then A K at) (Then B K at) t w (alt_from A B K at t w x))
        (early_end {Q = Then A K at} (λ w x. starts at [] x.value x.next x.rest x.first) (eb.run K k ne fi at [] h))
    go {W} K k ne fi at (b ∷ s) h = by (f b) refl
      where
        by : (c : Bool) → f b ≡ c → Verdict (Then (Alt A B) K at) at (b ∷ s) (finish (pick c (r at (b ∷ s)) (q at (b ∷ s))) k)
        by true e =
            same
            (alt_to A B K at)
            (alt_from A B K at)
            (early
            0
            (omega arith)
            (ea.some K ne at)
            (λ x.
            let y = x.word in
            avoids at _ y.value y.next y.rest y.first (fi.clear y.value y.next y.rest x.value y.others) e)
            (ea.run K k ne fi at (b ∷ s) h))
        by false e =
            same
            (λ t w x. alt_to A B K at t w (flip (Then B K at) (Then A K at) t w x))
            (λ t w x. flip (Then A K at) (Then B K at) t w (alt_from A B K at t w x))
            (early
            {Q = Then A K at}
            0
            (omega arith)
            (eb.some K ne at)
            (λ x. let y = x.word in clash (starts at _ y.value y.next y.rest y.first) e)
            (eb.run K k ne fi at (b ∷ s) h))

-- two at once, of which at most one is ok
abbrev pub both : {X : Type 0} → Out X → Out X → Out X
both (bad p) o = raise p o
both (ok v at s) (bad p) = soft p v at s
both (ok v at s) (ok v' at' s') = ok v at s
both (ok v at s) (soft p v' at' s') = ok v at s
both (soft q v at s) (bad p) = soft (max q p) v at s
both (soft q v at s) (ok v' at' s') = soft q v at s
both (soft q v at s) (soft p v' at' s') = soft q v at s

-- refused
abbrev pub Fails : {X : Type 0} → Out X → Type 0
Fails (bad p) = Unit {0}
Fails (ok v at s) = ⊥
Fails (soft p v at s) = ⊥

unfoldable pub both_r : {X : Type 0} → Reader X → Reader X → Reader X
both_r r q at s = both (r at s) (q at s)

join_comm : {W : Type 0} (p : ℕ) (f : Res W) → join f (stop p) ≡ join (stop p) f
join_comm p (acc w) = refl
join_comm p (stop q) = ap stop (omega arith)

both_join : {X W : Type 0} (o o' : Out X) (k : X → ℕ → List ℕ → Res W) → Fails o ⊎ Fails o' → finish (both o o') k ≡ join (finish o k) (finish o' k)
both_join (bad p) o k h = finish_raise p o k
both_join (ok v at s) (bad p) k h = sym (join_comm p (k v at s))
both_join (ok v at s) (ok v' at' s') k (inl x) = absurd x
both_join (ok v at s) (ok v' at' s') k (inr x) = absurd x
both_join (ok v at s) (soft p v' at' s') k (inl x) = absurd x
both_join (ok v at s) (soft p v' at' s') k (inr x) = absurd x
both_join {W = W} (soft q v at s) (bad p) k h = go (k v at s)
  where
    go : (f : Res W) → join (stop (max q p)) f ≡ join (join (stop q) f) (stop p)
    go (acc w) = refl
    go (stop r) = ap stop (omega arith)
both_join (soft q v at s) (ok v' at' s') k (inl x) = absurd x
both_join (soft q v at s) (ok v' at' s') k (inr x) = absurd x
both_join (soft q v at s) (soft p v' at' s') k (inl x) = absurd x
both_join (soft q v at s) (soft p v' at' s') k (inr x) = absurd x

-- a language whose reader fails has no word here, so the two cannot both have a value
pub fails_none : {X W : Type 0} {P : Tail W} {at : ℕ} {s : List ℕ} (o : Out X) (k : X → ℕ → List ℕ → Res W)
    → Fails o → Verdict P at s (finish o k) → (w : W) → P s w → ⊥
fails_none {X = X} {W = W} {P = P} {at = at} {s = s} (ok _ _ _) k h _ = elim h [ ]
fails_none {X = X} {W = W} {P = P} {at = at} {s = s} (soft _ _ _ _) k h _ = elim h [ ]
fails_none (bad p) k h (stops _ v z) = z

-- one of two is refused, no later than the other goes
abbrev pub Loses : {X : Type 0} → Out X → Out X → Type 0
Loses (bad p) o = p ≤ reach o
Loses (ok v at s) o = ⊥
Loses (soft p v at s) o = ⊥

lost : {X : Type 0} (o o' : Out X) → Loses o o' ⊎ Loses o' o → Fails o ⊎ Fails o'
lost (bad p) o' h = inl tt
lost (ok v a t) (bad q) h = inr tt
lost (soft p v a t) (bad q) h = inr tt
lost (ok v a t) (ok v' a' t') (inl x) = absurd x
lost (ok v a t) (ok v' a' t') (inr x) = absurd x
lost (ok v a t) (soft q v' a' t') (inl x) = absurd x
lost (ok v a t) (soft q v' a' t') (inr x) = absurd x
lost (soft p v a t) (ok v' a' t') (inl x) = absurd x
lost (soft p v a t) (ok v' a' t') (inr x) = absurd x
lost (soft p v a t) (soft q v' a' t') (inl x) = absurd x
lost (soft p v a t) (soft q v' a' t') (inr x) = absurd x

pub tamed_both : {X : Type 0} {d at : ℕ} {s : List ℕ} {o o' : Out X} → Loses o o' ⊎ Loses o' o → Tamed d at s o → Tamed d at s o' → Tamed d at s (both o o')
tamed_both h (t_bad p x x') (t_bad q y y') = t_bad (max p q) (omega arith) (omega arith)
tamed_both (inl h) (t_bad p x x') (t_ok m) = t_soft p m (omega arith)
tamed_both (inl h) (t_bad p x x') (t_soft q m l) = t_soft (max p q) m (omega arith)
tamed_both (inr h) (t_ok m) (t_bad q y y') = t_soft q m (omega arith)
tamed_both (inr h) (t_soft p m l) (t_bad q y y') = t_soft (max p q) m (omega arith)
tamed_both (inr h) (t_bad p x x') (t_ok m) = absurd h
tamed_both (inr h) (t_bad p x x') (t_soft q m l) = absurd h
tamed_both (inl h) (t_ok m) (t_bad q y y') = absurd h
tamed_both (inl h) (t_soft p m l) (t_bad q y y') = absurd h
tamed_both h (t_ok m) (t_ok n) = t_ok m
tamed_both h (t_ok m) (t_soft q n l) = t_ok m
tamed_both h (t_soft p m l) (t_ok n) = t_soft p m l
tamed_both h (t_soft p m l) (t_soft q n l') = t_soft p m l

pub both_exact : {X : Type 0} {d : ℕ} {A B : Lang X} {F : Follow} {r q : Reader X}
    → ((at : ℕ) (s : List ℕ) → Loses (r at s) (q at s) ⊎ Loses (q at s) (r at s))
    → Exact d A F r → Exact d B F q → Exact d (Alt A B) F (both_r r q)
unfolding both_r
both_exact {X} {d} {A} {B} {F} {r} {q} apart ea eb =
    record {
      run = λ K k ne fi at s h.
          rw (both_join (r at s) (q at s) k (one_fails at s))
          (same
          (alt_to A B K at)
          (alt_from A B K at)
          (union (never K k at s (one_fails at s) (ea.run K k ne fi at s h) (eb.run K k ne fi at s h)) (ea.run K k ne fi at s h) (eb.run K k ne fi at s h)));
      some = λ K ne at. let n = ea.some K ne at in record { more = n.more; value = n.value; word = alt_to A B K at _ _ (inl n.word) };
      moves = record { tame = λ at s. tamed_both (apart at s) (ea.moves.tame at s) (eb.moves.tame at s) };
    }
  where
    one_fails : (at : ℕ) (s : List ℕ) → Fails (r at s) ⊎ Fails (q at s)
    one_fails at s = lost (r at s) (q at s) (apart at s)

    never : {W : Type 0} (K : X → ℕ → Tail W) (k : X → ℕ → List ℕ → Res W) (at : ℕ) (s : List ℕ) → Fails (r at s) ⊎ Fails (q at s)
        → Verdict (Then A K at) at s (finish (r at s) k) → Verdict (Then B K at) at s (finish (q at s) k)
        → (w w' : W) → Then A K at s w → Then B K at s w' → w' ≡ w
    never K k at s (inl h) va vb w w' x y = absurd (fails_none (r at s) k h va w x)
    never K k at s (inr h) va vb w w' x y = absurd (fails_none (q at s) k h vb w' y)

-- with a bound on the turns, which the length of the text is enough for
abbrev pub star_r : {X : Type 0} → (ℕ → Bool) → Reader X → ℕ → Reader (List X)
star_r f r zero at s = ok [] at s
star_r f r (suc n) at [] = ok [] at []
star_r f r (suc n) at (b ∷ s) = pick (f b) (bind (r at (b ∷ s)) (λ v at₁ s₁. fmap (v ∷◌) (star_r f r n at₁ s₁))) (ok [] at (b ∷ s))

abbrev pub many_r : {X : Type 0} → (ℕ → Bool) → Reader X → Reader (List X)
many_r f r at s = star_r f r (length s) at s

module _ {X W : Type 0} (A : Lang X) (K : List X → ℕ → Tail W) (at : ℕ) where
  abbrev pub Again : Tail W
  Again = Then A (λ v a. Then (Star A) (λ vs. K (v ∷ vs)) a) at

  pub star_to : (t : List ℕ) (w : W) → either (K [] at) Again t w → Then (Star A) K at t w
  star_to t w (inl x) = record { value = []; next = at; rest = t; first = nil; others = x }
  star_to t w (inr x) =
      record {
        value = x.value ∷ x.others.value;
        next = x.others.next;
        rest = x.others.rest;
        first = cons x.first x.others.first;
        others = x.others.others;
      }

  pub star_from : (t : List ℕ) (w : W) → Then (Star A) K at t w → either (K [] at) Again t w
  star_from t w x = go x.first x.others
    where
      go : {vs : List X} {a : ℕ} {t' : List ℕ} → Star A at t vs a t' → K vs a t' w → either (K [] at) Again t w
      go nil y = inl y
      go (cons {v = v} {at₁ = a₁} {s₁ = s₁} {vs = vs} {at₂ = a₂} {s₂ = s₂} y z) u =
          inr
          (record {
            value = v;
            next = a₁;
            rest = s₁;
            first = y;
            others = record { value = vs; next = a₂; rest = s₂; first = z; others = u };
          })

abbrev pub Or : (List ℕ → Type 0) → (ℕ → Bool) → List ℕ → Type 0
Or F f t = F t ⊎ Starts f t

pub star_r_tame : {X : Type 0} {d : ℕ} {r : Reader X} (f : ℕ → Bool) → Tame d r → (n : ℕ) → Tame 0 (star_r f r n)
star_r_tame {X} {d} {r} f m n = record { tame = go n }
  where
    go : (n at : ℕ) (s : List ℕ) → Tamed 0 at s (star_r f r n at s)
    go zero at s = t_ok (moves_none at s)
    go (suc n) at [] = t_ok (moves_none at [])
    go (suc n) at (b ∷ s) =
        tamed_pick
        (f b)
        (tamed_less
        0
        (omega arith)
        (tamed_bind (λ v a t. fmap (v ∷◌) (star_r f r n a t)) (m.tame at (b ∷ s)) (λ v. record { tame = λ a t. tamed_fmap (v ∷◌) (go n a t) })))
        (t_ok (moves_none at (b ∷ s)))

pub star_tame : {X : Type 0} {d : ℕ} {r : Reader X} (f : ℕ → Bool) → Tame d r → Tame 0 (many_r f r)
star_tame f m = record { tame = λ at s. (star_r_tame f m (length s)).tame at s }

pub star_exact : {X : Type 0} {d : ℕ} {A : Lang X} {F : List ℕ → Type 0} {r : Reader X} (f : ℕ → Bool)
    → ((at : ℕ) (s : List ℕ) (v : X) (at' : ℕ) (t : List ℕ) → A at s v at' t → Starts f s × (F s → ⊥))
    → Exact (suc d) A (bar F) r → Exact 0 (Star A) (bar (Or F f)) (many_r f r)
star_exact {X} {d} {A} {F} {r} f starts ea =
    record {
      run = λ K k ne fi at s h. go (length s) K k ne fi.clear at s (omega arith) h;
      some = λ K ne at. more K ne at;
      moves = star_tame f ea.moves;
    }
  where
    more : {W : Type 0} (K : List X → ℕ → Tail W) → ((v : List X) (at : ℕ) → Begins (K v at) []) → (at : ℕ) → Begins (Then (Star A) K at) []
    more K ne at =
        let n = ne [] at in
        record { more = n.more; value = n.value; word = star_to A K at _ _ (inl n.word) }

    clear : {W : Type 0} (K : List X → ℕ → Tail W) (at : ℕ) (t : List ℕ) (w : W) → (K [] at t w → F t → ⊥) → Then (Star A) K at t w → F t → ⊥
    clear K at t w c x y = by (star_from A K at t w x)
      where
        by : either (K [] at) (Again A K at) t w → ⊥
        by (inl z) = c z y
        by (inr z) = (starts at t z.value z.next z.rest z.first).1 y

    go : (n : ℕ) {W : Type 0} (K : List X → ℕ → Tail W) (k : List X → ℕ → List ℕ → Res W) (ne : (v : List X) (at : ℕ) → Begins (K v at) [])
        → ((v : List X) (at : ℕ) (t : List ℕ) (w : W) → K v at t w → Or F f t → ⊥) → (at : ℕ) (s : List ℕ) → length s ≤ n
        → ((v : List X) (at' : ℕ) (s' : List ℕ) → 0 + length s' ≤ length s → Verdict (K v at') at' s' (k v at' s'))
        → Verdict (Then (Star A) K at) at s (finish (star_r f r n at s) k)
    go zero K k ne cl at [] l h =
        same (star_to A K at) (star_from A K at) (early_end {Q = Again A K at} (λ w x. (starts at [] x.value x.next x.rest x.first).0) (h [] at [] (omega arith)))
    go zero K k ne cl at (b ∷ s) l h = absurd (omega arith)
    go (suc n) K k ne cl at [] l h =
        same (star_to A K at) (star_from A K at) (early_end {Q = Again A K at} (λ w x. (starts at [] x.value x.next x.rest x.first).0) (h [] at [] (omega arith)))
    go (suc n) {W} K k ne cl at (b ∷ s) l h =
        by
        (f b)
        refl
        (λ v a s' l'.
        go
        n
        (λ vs. K (v ∷ vs))
        (λ vs. k (v ∷ vs))
        (λ vs. ne (v ∷ vs))
        (λ vs. cl (v ∷ vs))
        a
        s'
        (omega arith)
        (λ vs a'' s'' l''. h (v ∷ vs) a'' s'' (omega arith)))
      where
        by : (c : Bool) → f b ≡ c
            → ((v : X) (a : ℕ) (s' : List ℕ) → suc d + length s' ≤ length (b ∷ s)
            → Verdict (Then (Star A) (λ vs. K (v ∷ vs)) a) a s' (finish (star_r f r n a s') (λ vs. k (v ∷ vs))))
            → Verdict
            (Then (Star A) K at)
            at
            (b ∷ s)
            (finish (pick c (bind (r at (b ∷ s)) (λ v a s'. fmap (v ∷◌) (star_r f r n a s'))) (ok [] at (b ∷ s))) k)
        by true e ih =
            rw finish_bind
            (same
            (λ t w x. star_to A K at t w (flip (Again A K at) (K [] at) t w x))
            (λ t w x. flip (K [] at) (Again A K at) t w (star_from A K at t w x))
            (early
            {Q = K [] at}
            0
            (omega arith)
            (ea.some (λ v a. Then (Star A) (λ vs. K (v ∷ vs)) a) (λ v a. more (λ vs. K (v ∷ vs)) (λ vs. ne (v ∷ vs)) a) at)
            (λ x. cl [] at _ x.value x.word (inr e))
            (ea.run
            (λ v a. Then (Star A) (λ vs. K (v ∷ vs)) a)
            (λ v a s'. finish (fmap (v ∷◌) (star_r f r n a s')) k)
            (λ v a. more (λ vs. K (v ∷ vs)) (λ vs. ne (v ∷ vs)) a)
            (fits_bar (λ v a t w x. clear (λ vs. K (v ∷ vs)) a t w (λ z y. cl (v ∷ []) a t w z (inl y)) x))
            at
            (b ∷ s)
            (λ v a s' l'. rw finish_fmap (ih v a s' l')))))
        by false e ih =
            same
            (star_to A K at)
            (star_from A K at)
            (early
            {Q = Again A K at}
            0
            (omega arith)
            (ne [] at)
            (λ x. let y = x.word in clash (starts at _ y.value y.next y.rest y.first).0 e)
            (h [] at (b ∷ s) (omega arith)))

-- as many bytes of a class as there are
pub many_bytes : (f : ℕ → Bool) (n at : ℕ) (s : List ℕ) → length s ≤ n → (vs : List ℕ) × (star_r f (byte_r f) n at s ≡ ok vs (at + count f s) (behind f s))
many_bytes f zero at [] l = ([], ap (λ (n : ℕ). ok [] n []) (omega arith))
many_bytes f zero at (b ∷ s) l = absurd (omega arith)
many_bytes f (suc n) at [] l = ([], ap (λ (n : ℕ). ok [] n []) (omega arith))
many_bytes f (suc n) at (b ∷ s) l = by (f b) (many_bytes f n (suc at) s (omega arith))
  where
    by : (c : Bool) → (vs : List ℕ) × (star_r f (byte_r f) n (suc at) s ≡ ok vs (suc at + count f s) (behind f s))
        → (vs : List ℕ)
        × (pick c (bind (pick c (ok b (suc at) s) (bad at)) (λ v a t. fmap (v ∷◌) (star_r f (byte_r f) n a t))) (ok [] at (b ∷ s))
        ≡ ok vs (at + pick c (suc (count f s)) 0) (pick c (behind f s) (b ∷ s)))
    by true ih = (b ∷ ih.0, ap (fmap (b ∷◌)) ih.1 ∙ ap (λ (n : ℕ). ok (b ∷ ih.0) n (behind f s)) (omega arith))
    by false ih = ([], ap (λ (n : ℕ). ok [] n (b ∷ s)) (omega arith))

-- two languages of the same words have the same readers: so a reader may read a common beginning once
pub exact_iff : {X : Type 0} {d : ℕ} {A B : Lang X} {F : Follow} {r : Reader X}
    → ((at : ℕ) (s : List ℕ) (v : X) (at' : ℕ) (t : List ℕ) → A at s v at' t → B at s v at' t)
    → ((at : ℕ) (s : List ℕ) (v : X) (at' : ℕ) (t : List ℕ) → B at s v at' t → A at s v at' t) → Exact d A F r → Exact d B F r
exact_iff to from e =
    record {
      run = λ K k ne fi at s h.
          same
          (λ t w x. record { value = x.value; next = x.next; rest = x.rest; first = to at t x.value x.next x.rest x.first; others = x.others })
          (λ t w x. record { value = x.value; next = x.next; rest = x.rest; first = from at t x.value x.next x.rest x.first; others = x.others })
          (e.run K k ne fi at s h);
      some = λ K ne at.
          let n = e.some K ne at in
          record {
            more = n.more;
            value = n.value;
            word =
                record {
                  value = n.word.value;
                  next = n.word.next;
                  rest = n.word.rest;
                  first = to at _ n.word.value n.word.next n.word.rest n.word.first;
                  others = n.word.others;
                };
          };
      moves = e.moves;
    }

pub factor : {X Y : Type 0} {d : ℕ} {C : Lang X} {A B : X → Lang Y} {F : Follow} {r : Reader Y}
    → Exact d (Seq C (λ x. Alt (A x) (B x))) F r → Exact d (Alt (Seq C A) (Seq C B)) F r
factor {X} {Y} {C = C} {A} {B} e = exact_iff to from e
  where
    to : (at : ℕ) (s : List ℕ) (v : Y) (at' : ℕ) (t : List ℕ) → Seq C (λ x. Alt (A x) (B x)) at s v at' t → Alt (Seq C A) (Seq C B) at s v at' t
    to at s v at' t x = go x.second
      where
        go : Alt (A x.value) (B x.value) x.middle x.rest v at' t → Alt (Seq C A) (Seq C B) at s v at' t
        go (one y) = one (record { value = x.value; middle = x.middle; rest = x.rest; first = x.first; second = y })
        go (two y) = two (record { value = x.value; middle = x.middle; rest = x.rest; first = x.first; second = y })

    from : (at : ℕ) (s : List ℕ) (v : Y) (at' : ℕ) (t : List ℕ) → Alt (Seq C A) (Seq C B) at s v at' t → Seq C (λ x. Alt (A x) (B x)) at s v at' t
    from at s v at' t (one x) = record { value = x.value; middle = x.middle; rest = x.rest; first = x.first; second = one x.second }
    from at s v at' t (two x) = record { value = x.value; middle = x.middle; rest = x.rest; first = x.first; second = two x.second }
