-- As many as there are, by a look at the text: where no more can begin, how far one would have begun is told (`soft`).
-- And a language on a line of n spaces. Assumes nothing.
use Rattle.std.specs.Prelude.{◌≡◌, refl, List, [], ◌∷◌, ◌++◌, ◌⊎◌, Bool, true, false, ℕ, zero, suc, ◌+◌, ◌≤◌, ◌<◌, max, length, take}
use Rattle.std.proofs.Common.{sym, ap, subst, ◌∙◌, inl, inr, arith}
pub use Rattle.notation.specs.Lang.{Indented}
use Rattle.exact.specs.Verdict.{Tail, Res, Begins, either, Verdict, same, union, early, absorbed, stop, stops}
use Rattle.exact.specs.Class.{Starts, pick, clash, Class, and, is, apart, and_of, none, sub, inside, only, only_is}
use Rattle.exact.specs.Out.{Out, Reader, bind, fmap, finish, finish_bind, finish_fmap, margin, Tamed, Tame, moves_none, tamed_less, tamed_pick, tamed_fmap, tamed_bind, ok, soft, bad, t_soft}
use Rattle.exact.specs.Lang.{Lang, Then, Follow, bar, Fits, Exact, within_same, weaken, ret_then, ret_exact, Byte, byte_r, byte_exact, ret, byte}
use Rattle.exact.specs.Comb.{Seq, seq_r, seq_tame, seq_exact, Map, map_r, flip, Star, Again, star_to, star_from}

-- the look g says whether one more begins here; if none does, one begins as far as `far` says, among the spaces
abbrev pub star_g : {X : Type 0} → (List ℕ → Bool) → (List ℕ → ℕ) → Reader X → ℕ → Reader (List X)
star_g g far r zero at s = soft (at + far s) [] at s
star_g g far r (suc n) at s = pick (g s) (bind (r at s) (λ v a t. fmap (v ∷◌) (star_g g far r n a t))) (soft (at + far s) [] at s)

abbrev pub many_g : {X : Type 0} → (List ℕ → Bool) → (List ℕ → ℕ) → Reader X → Reader (List X)
many_g g far r at s = star_g g far r (length s) at s

pub star_g_tame' : {X : Type 0} {d : ℕ} {r : Reader X} (g : List ℕ → Bool) (far : List ℕ → ℕ) → ((s : List ℕ) → far s ≤ margin s) → Tame d r → (n : ℕ) → Tame 0 (star_g g far r n)
star_g_tame' {X} {d} {r} g far near m n = record { tame = go n }
  where
    none : (at : ℕ) (s : List ℕ) → Tamed {X = List X} 0 at s (soft (at + far s) [] at s)
    none at s = t_soft (at + far s) (moves_none at s) (omega (arith, near s))

    go : (n at : ℕ) (s : List ℕ) → Tamed 0 at s (star_g g far r n at s)
    go zero at s = none at s
    go (suc n) at s =
        tamed_pick
        (g s)
        (tamed_less
        0
        (omega arith)
        (tamed_bind (λ v a t. fmap (v ∷◌) (star_g g far r n a t)) (m.tame at s) (λ v. record { tame = λ a t. tamed_fmap (v ∷◌) (go n a t) })))
        (none at s)

pub star_g_tame : {X : Type 0} {d : ℕ} {r : Reader X} (g : List ℕ → Bool) (far : List ℕ → ℕ) → ((s : List ℕ) → far s ≤ margin s) → Tame d r → Tame 0 (many_g g far r)
star_g_tame g far near m = record { tame = λ at s. (star_g_tame' g far near m (length s)).tame at s }

-- where the look says that one begins, nothing else does: it is dead within m + 1 bytes, of which A begins with m
pub record Clear {X : Type 0} (A : Lang X) (G : List ℕ → Type 0) (s : List ℕ) : Type 1 where
  pub m : ℕ
  pub fits : suc m ≤ length s
  pub taken : (t : List ℕ) → G (take (suc m) s ++ t)
  pub alive : {W : Type 0} (K : X → ℕ → Tail W) → ((v : X) (at : ℕ) → Begins (K v at) []) → (at : ℕ) → Begins (Then A K at) (take m s)

-- what the look has to meet. H: bytes that are an A of value u by themselves, and that may also belong to what follows (blank lines)
pub record Looks {X : Type 0} (A : Lang X) (F : Follow) (r : Reader X) (G : List ℕ → Type 0) (g : List ℕ → Bool) (far : List ℕ → ℕ) (H : ℕ → Bool) (u : X) : Type 1 where
  pub into : (t : List ℕ) → F.bars t → G t
  pub avoids : (at : ℕ) (s : List ℕ) (v : X) (at' : ℕ) (t : List ℕ) → A at s v at' t → F.bars s → ⊥
  pub keeps : (at b : ℕ) (s : List ℕ) (v : X) (at' : ℕ) (t : List ℕ) → A at (b ∷ s) v at' t → F.eats b ≡ true → ⊥
  pub look : (s : List ℕ) → g s ≡ true → Clear A G s ⊎ Starts H s
  pub fails : (at : ℕ) (s : List ℕ) → g s ≡ false → r at s ≡ bad (at + far s)
  pub near : (s : List ℕ) → far s ≤ margin s
  pub blank : (at b : ℕ) (t : List ℕ) → H b ≡ true → A at (b ∷ t) u (suc at) t

module _ {X : Type 0} {d : ℕ} {A : Lang X} {F : Follow} {r : Reader X} {G : List ℕ → Type 0} {g : List ℕ → Bool} {far : List ℕ → ℕ} {H : ℕ → Bool} {u : X}
    (l : Looks A F r G g far H u) (ea : Exact (suc d) A F r) where
  -- what may follow as many as there are
  record Over {W : Type 0} (K : List X → ℕ → Tail W) : Type 0 where
    clear : (vs : List X) (at : ℕ) (t : List ℕ) (w : W) → K vs at t w → G t → ⊥
    gives : (vs : List X) (at b : ℕ) (t : List ℕ) (w : W) → K vs at (b ∷ t) w → F.eats b ≡ true → K vs (suc at) t w
    absorbs : (vs : List X) (at b : ℕ) (t : List ℕ) (w : W) → K vs at (b ∷ t) w → H b ≡ true → K (vs ++ u ∷ []) (suc at) t w

  on : {W : Type 0} {K : List X → ℕ → Tail W} (v : X) → Over K → Over (λ vs. K (v ∷ vs))
  on v o = record { clear = λ vs. o.clear (v ∷ vs); gives = λ vs. o.gives (v ∷ vs); absorbs = λ vs. o.absorbs (v ∷ vs) }

  many_some : {W : Type 0} (K : List X → ℕ → Tail W) → ((v : List X) (at : ℕ) → Begins (K v at) []) → (at : ℕ) → Begins (Then (Star A) K at) []
  many_some K ne at =
      let n = ne [] at in
      record { more = n.more; value = n.value; word = star_to A K at _ _ (inl n.word) }

  fits_star : {W : Type 0} (K : X → List X → ℕ → Tail W) → ((v : X) → Over (K v)) → Fits F (λ v a. Then (Star A) (K v) a)
  fits_star {W} K o = record { clear = λ v a t w x y. no v a t w y (star_from A (K v) a t w x); gives = λ v a b t w x e. go v a b t w e (star_from A (K v) a (b ∷ t) w x) }
    where
      no : (v : X) (a : ℕ) (t : List ℕ) (w : W) → F.bars t → either (K v [] a) (Again A (K v) a) t w → ⊥
      no v a t w y (inl z) = (o v).clear [] a t w z (l.into t y)
      no v a t w y (inr z) = l.avoids a t z.value z.next z.rest z.first y

      go : (v : X) (a b : ℕ) (t : List ℕ) (w : W) → F.eats b ≡ true → either (K v [] a) (Again A (K v) a) (b ∷ t) w → Then (Star A) (K v) (suc a) t w
      go v a b t w e (inl z) = star_to A (K v) (suc a) t w (inl ((o v).gives [] a b t w z e))
      go v a b t w e (inr z) = absurd (l.keeps a b t z.value z.next z.rest z.first e)

  -- how far one more begins
  again : {W : Type 0} (K : List X → ℕ → Tail W) (k : X → ℕ → List ℕ → Res W) → ((v : List X) (at : ℕ) → Begins (K v at) []) → Over K → (at : ℕ) (s : List ℕ)
      → ((v : X) (a : ℕ) (s' : List ℕ) → suc d + length s' ≤ length s → Verdict (Then (Star A) (λ vs. K (v ∷ vs)) a) a s' (k v a s'))
      → Verdict (Again A K at) at s (finish (r at s) k)
  again K k ne o at s ih =
      ea.run
      (λ v a. Then (Star A) (λ vs. K (v ∷ vs)) a)
      k
      (λ v a. many_some (λ vs. K (v ∷ vs)) (λ vs. ne (v ∷ vs)) a)
      (fits_star (λ v vs. K (v ∷ vs)) (λ v. on v o))
      at
      s
      ih

  -- none begins here
  off : {W : Type 0} (K : List X → ℕ → Tail W) (k : List X → ℕ → List ℕ → Res W) (k' : X → ℕ → List ℕ → Res W) (at : ℕ) (s : List ℕ) → g s ≡ false
      → Verdict (Again A K at) at s (finish (r at s) k') → Verdict (K [] at) at s (k [] at s)
      → Verdict (Then (Star A) K at) at s (finish (soft (at + far s) [] at s) k)
  off K k k' at s e va vk =
      let v : Verdict (Again A K at) at s (stop (at + far s)) = subst (λ (o : Out X). Verdict (Again A K at) at s (finish o k')) (l.fails at s e) va in
      same
      (λ t w x. star_to A K at t w (flip (Again A K at) (K [] at) t w x))
      (λ t w x. flip (K [] at) (Again A K at) t w (star_from A K at t w x))
      (union (λ w w' x y. absurd (stopped v w x)) v vk)
    where
      stopped : {W : Type 0} {P : Tail W} {at : ℕ} {s : List ℕ} {p : ℕ} → Verdict P at s (stop p) → (w : W) → P s w → ⊥
      stopped (stops _ v z) = z

  many_run : (n : ℕ) {W : Type 0} (K : List X → ℕ → Tail W) (k : List X → ℕ → List ℕ → Res W) → ((v : List X) (at : ℕ) → Begins (K v at) []) → Over K
      → (at : ℕ) (s : List ℕ) → length s ≤ n
      → ((v : List X) (at' : ℕ) (s' : List ℕ) → 0 + length s' ≤ length s → Verdict (K v at') at' s' (k v at' s'))
      → Verdict (Then (Star A) K at) at s (finish (star_g g far r n at s) k)
  many_run zero {W} K k ne o at s m h = by (g s) refl
    where
      inside : (s : List ℕ) → length s ≤ 0 → Clear A G s ⊎ Starts H s → ⊥
      inside s m (inl c) = let f = c.fits in omega arith
      inside [] m (inr z) = z
      inside (b ∷ s) m (inr z) = omega arith

      by : (c : Bool) → g s ≡ c → Verdict (Then (Star A) K at) at s (finish (soft (at + far s) [] at s) k)
      by true e = absurd (inside s m (l.look s e))
      by false e =
          off K k (λ v a s'. stop a) at s e (again K (λ v a s'. stop a) ne o at s (λ v a s' m'. absurd (omega arith))) (h [] at s (omega arith))
  many_run (suc n) {W} K k ne o at s m h =
      by
      (g s)
      refl
      (λ v a s' m'.
      rw finish_fmap
      (many_run n (λ vs. K (v ∷ vs)) (λ vs. k (v ∷ vs)) (λ vs. ne (v ∷ vs)) (on v o) a s' (omega arith) (λ vs a'' s'' l''. h (v ∷ vs) a'' s'' (omega arith))))
    where
      begins : (at : ℕ) → Begins (Again A K at) []
      begins at = ea.some (λ v a. Then (Star A) (λ vs. K (v ∷ vs)) a) (λ v a. many_some (λ vs. K (v ∷ vs)) (λ vs. ne (v ∷ vs)) a) at

      found : (s : List ℕ) → Clear A G s ⊎ Starts H s → {f : Res W} → Verdict (Again A K at) at s f → Verdict (either (Again A K at) (K [] at)) at s f
      found s (inl c) va =
          early
          {Q = K [] at}
          c.m
          c.fits
          (c.alive (λ v a. Then (Star A) (λ vs. K (v ∷ vs)) a) (λ v a. many_some (λ vs. K (v ∷ vs)) (λ vs. ne (v ∷ vs)) a) at)
          (λ x. o.clear [] at _ x.value x.word (c.taken x.more))
          va
      found [] (inr z) va = absurd z
      found (b ∷ s) (inr z) va =
          absorbed
          (begins at)
          (λ t w x.
          record {
            value = u;
            next = suc at;
            rest = t;
            first = l.blank at b t z;
            others = star_to A (λ vs. K (u ∷ vs)) (suc at) t w (inl (o.absorbs [] at b t w x z));
          })
          va

      by : (c : Bool) → g s ≡ c
          → ((v : X) (a : ℕ) (s' : List ℕ) → suc d + length s' ≤ length s
          → Verdict (Then (Star A) (λ vs. K (v ∷ vs)) a) a s' (finish (fmap (v ∷◌) (star_g g far r n a s')) k))
          → Verdict (Then (Star A) K at) at s (finish (pick c (bind (r at s) (λ v a t. fmap (v ∷◌) (star_g g far r n a t))) (soft (at + far s) [] at s)) k)
      by true e ih =
          rw finish_bind
          (same
          (λ t w x. star_to A K at t w (flip (Again A K at) (K [] at) t w x))
          (λ t w x. flip (K [] at) (Again A K at) t w (star_from A K at t w x))
          (found s (l.look s e) (again K (λ v a s'. finish (fmap (v ∷◌) (star_g g far r n a s')) k) ne o at s ih)))
      by false e ih =
          off
          K
          k
          (λ v a s'. finish (fmap (v ∷◌) (star_g g far r n a s')) k)
          at
          s
          e
          (again K (λ v a s'. finish (fmap (v ∷◌) (star_g g far r n a s')) k) ne o at s ih)
          (h [] at s (omega arith))

-- as many as there are: what the last one eats, they eat
pub star_g_exact : {X : Type 0} {d : ℕ} {A : Lang X} {F : Follow} {r : Reader X} {G : List ℕ → Type 0} {g : List ℕ → Bool} {far : List ℕ → ℕ} {u : X}
    → Looks A F r G g far (λ b. false) u → Exact (suc d) A F r → Exact 0 (Star A) (record { bars = G; eats = F.eats }) (many_g g far r)
star_g_exact {g = g} {far} l ea =
    record {
      run = λ K k ne fi at s h.
          many_run l ea (length s) K k ne (record { clear = fi.clear; gives = fi.gives; absorbs = λ vs a b t w x e. absurd (clash e refl) }) at s (omega arith) h;
      some = many_some l ea;
      moves = star_g_tame g far l.near ea.moves;
    }

-- as many as there are, of a value that one more blank at the end does not change: they eat blanks
pub body_exact : {X Y : Type 0} {d : ℕ} {A : Lang X} {F : List ℕ → Type 0} {r : Reader X} {G : List ℕ → Type 0} {g : List ℕ → Bool} {far : List ℕ → ℕ}
    {H : ℕ → Bool} {u : X} (norm : List X → Y) → ((vs : List X) → norm (vs ++ u ∷ []) ≡ norm vs)
    → Looks A (bar F) r G g far H u → Exact (suc d) A (bar F) r → Exact 0 (Map norm (Star A)) (record { bars = G; eats = H }) (map_r norm (many_g g far r))
body_exact {X} {Y} {A = A} {r = r} {g = g} {far} {H} {u} norm trims l ea =
    record {
      run = λ K k ne fi at s h.
          rw finish_bind
          (same
          (to K at)
          (from K at)
          (many_run
          l
          ea
          (length s)
          (λ vs. K (norm vs))
          (λ vs. k (norm vs))
          (λ vs. ne (norm vs))
          (record {
            clear = λ vs. fi.clear (norm vs);
            gives = λ vs a b t w x e. absurd (clash e refl);
            absorbs = λ vs a b t w x e. subst (λ (y : Y). K y (suc a) t w) (sym (trims vs)) (fi.gives (norm vs) a b t w x e);
          })
          at
          s
          (omega arith)
          (λ vs a s' m. h (norm vs) a s' m)));
      some = λ K ne at.
          let n = many_some l ea (λ vs. K (norm vs)) (λ vs. ne (norm vs)) at in
          record { more = n.more; value = n.value; word = to K at _ _ n.word };
      moves = record { tame = λ at s. tamed_less 0 (omega arith) ((seq_tame (star_g_tame g far l.near ea.moves) (λ vs. (ret_exact (norm vs)).moves)).tame at s) };
    }
  where
    to : {W : Type 0} (K : Y → ℕ → Tail W) (at : ℕ) (t : List ℕ) (w : W) → Then (Star A) (λ vs. K (norm vs)) at t w → Then (Map norm (Star A)) K at t w
    to K at t w x =
        record {
          value = norm x.value;
          next = x.next;
          rest = x.rest;
          first = record { value = x.value; middle = x.next; rest = x.rest; first = x.first; second = ret };
          others = x.others;
        }

    from : {W : Type 0} (K : Y → ℕ → Tail W) (at : ℕ) (t : List ℕ) (w : W) → Then (Map norm (Star A)) K at t w → Then (Star A) (λ vs. K (norm vs)) at t w
    from K at t w x =
        record {
          value = x.first.value;
          next = x.first.middle;
          rest = x.first.rest;
          first = x.first.first;
          others = ret_then K x.first.second x.others;
        }

abbrev pub indented_r : {X : Type 0} → ℕ → Reader X → Reader X
indented_r zero r = r
indented_r (suc n) r = seq_r (byte_r (is (only 32))) (λ _. indented_r n r)

pub indented_exact : {X : Type 0} {d : ℕ} {A : Lang X} {F : Follow} {r : Reader X} (n : ℕ) → Exact d A F r → Exact d (Indented n A) F (indented_r n r)
indented_exact zero e = e
indented_exact {d = d} {F = F} (suc n) e =
    weaken d F (omega arith) (within_same F) (seq_exact (byte_exact (is (only 32)) 32 (only_is 32)) (λ _. indented_exact n e) (λ x at s y at' t b g z. z))

-- the text begins with n spaces and a byte of f
abbrev pub ind : (ℕ → Bool) → ℕ → List ℕ → Bool
ind f zero [] = false
ind f zero (b ∷ t) = f b
ind f (suc n) [] = false
ind f (suc n) (b ∷ t) = and (is (only 32) b) (ind f n t)

-- .. with n spaces or more
pub record Deep (f : ℕ → Bool) (n : ℕ) (t : List ℕ) : Type 0 where
  pub column : ℕ
  pub least : n ≤ column
  pub there : ind f column t ≡ true

pub ind_none : (f : ℕ → Bool) (n : ℕ) → ind f n [] ≡ true → ⊥
ind_none f zero e = clash e refl
ind_none f (suc n) e = clash e refl

-- n spaces and a byte of c are not n spaces and one more
pub ind_not : (c : Class) → apart c (only 32) ≡ true → (n m : ℕ) (s : List ℕ) → n ≤ m → ind (is c) n s ≡ true → ind (is (only 32)) m s ≡ true → ⊥
ind_not c h n m [] l x y = ind_none (is c) n x
ind_not c h zero zero (b ∷ s) l x y = none c (only 32) b h x y
ind_not c h zero (suc m) (b ∷ s) l x y = none c (only 32) b h x (and_of (is (only 32) b) (ind (is (only 32)) m s) y).0
ind_not c h (suc n) zero (b ∷ s) l x y = omega arith
ind_not c h (suc n) (suc m) (b ∷ s) l x y =
    ind_not c h n m s (omega arith) (and_of (is (only 32) b) (ind (is c) n s) x).1 (and_of (is (only 32) b) (ind (is (only 32)) m s) y).1

-- more spaces than n begin with n spaces and one more
pub ind_less : (f : ℕ → Bool) (n m : ℕ) (s : List ℕ) → n < m → ind f m s ≡ true → ind (is (only 32)) n s ≡ true
ind_less f n m [] l x = absurd (ind_none f m x)
ind_less f n zero (b ∷ s) l x = absurd (omega arith)
ind_less f zero (suc m) (b ∷ s) l x = (and_of (is (only 32) b) (ind f m s) x).0
ind_less f (suc n) (suc m) (b ∷ s) l x =
    let u = and_of (is (only 32) b) (ind f m s) x in
    rw u.0 (ind_less f n m s (omega arith) u.1)

pub ind_inside : (c d : Class) (n : ℕ) (s : List ℕ) → sub c d ≡ true → ind (is c) n s ≡ true → ind (is d) n s ≡ true
ind_inside c d n [] h x = absurd (ind_none (is c) n x)
ind_inside c d zero (b ∷ s) h x = inside c d b h x
ind_inside c d (suc n) (b ∷ s) h x =
    let u = and_of (is (only 32) b) (ind (is c) n s) x in
    rw u.0 (ind_inside c d n s h u.1)

pub ind_fits : (f : ℕ → Bool) (n : ℕ) (s : List ℕ) → ind f n s ≡ true → suc n ≤ length s
ind_fits f zero [] e = absurd (clash e refl)
ind_fits f zero (b ∷ s) e = omega arith
ind_fits f (suc n) [] e = absurd (clash e refl)
ind_fits f (suc n) (b ∷ s) e = let h = ind_fits f n s (and_of (is (only 32) b) (ind f n s) e).1 in omega arith

ind_take : (f : ℕ → Bool) (n : ℕ) (s t : List ℕ) → ind f n s ≡ true → ind f n (take (suc n) s ++ t) ≡ true
ind_take f zero [] t e = absurd (clash e refl)
ind_take f zero (b ∷ s) t e = e
ind_take f (suc n) [] t e = absurd (clash e refl)
ind_take f (suc n) (b ∷ s) t e =
    let u = and_of (is (only 32) b) (ind f n s) e in
    rw u.0 (ind_take f n s t u.1)

ind_alive : {X W : Type 0} {d : ℕ} {A : Lang X} {F : Follow} {r : Reader X} (f : ℕ → Bool) → Exact d A F r → (K : X → ℕ → Tail W)
    → ((v : X) (at : ℕ) → Begins (K v at) []) → (n at : ℕ) (s : List ℕ) → ind f n s ≡ true → Begins (Then (Indented n A) K at) (take n s)
ind_alive f ea K ne zero at s e = ea.some K ne at
ind_alive f ea K ne (suc n) at [] e = absurd (clash e refl)
ind_alive f ea K ne (suc n) at (b ∷ s) e =
    let u = and_of (is (only 32) b) (ind f n s) e in
    let x = ind_alive f ea K ne n (suc at) s u.1 in
    record {
      more = x.more;
      value = x.value;
      word =
          record {
            value = x.word.value;
            next = x.word.next;
            rest = x.word.rest;
            first = record { value = b; middle = suc at; rest = take n s ++ x.more; first = byte u.0; second = x.word.first };
            others = x.word.others;
          };
    }

pub ind_clear : {X : Type 0} {d : ℕ} {A : Lang X} {F : Follow} {r : Reader X} (f : ℕ → Bool) (n : ℕ) → Exact d A F r → (s : List ℕ)
    → ind f n s ≡ true → Clear (Indented n A) (Deep f n) s
ind_clear f n ea s e =
    record {
      m = n;
      fits = ind_fits f n s e;
      taken = λ t. record { column = n; least = omega arith; there = ind_take f n s t e };
      alive = λ K ne at. ind_alive f ea K ne n at s e;
    }

-- as far as n spaces go
abbrev pub lead : ℕ → List ℕ → ℕ
lead zero s = 0
lead (suc n) [] = 0
lead (suc n) (b ∷ s) = pick (is (only 32) b) (suc (lead n s)) 0

pub lead_near : (n : ℕ) (s : List ℕ) → lead n s ≤ margin s
lead_near zero s = omega arith
lead_near (suc n) [] = omega arith
lead_near (suc n) (b ∷ s) = by (is (only 32) b) (lead_near n s)
  where
    by : (c : Bool) → lead n s ≤ margin s → pick c (suc (lead n s)) 0 ≤ pick c (suc (margin s)) 0
    by true h = omega arith
    by false h = omega arith

pub ind_fails : {X : Type 0} (f : ℕ → Bool) (r : Reader X) → ((at : ℕ) (s : List ℕ) → ind f zero s ≡ false → r at s ≡ bad at)
    → (n at : ℕ) (s : List ℕ) → ind f n s ≡ false → indented_r n r at s ≡ bad (at + lead n s)
ind_fails f r h zero at s e = h at s e ∙ ap bad (omega arith)
ind_fails f r h (suc n) at [] e = ap bad (omega arith)
ind_fails {X} f r h (suc n) at (b ∷ s) e = go (is (only 32) b) e (ind_fails f r h n (suc at) s)
  where
    go : (c : Bool) → and c (ind f n s) ≡ false → (ind f n s ≡ false → indented_r n r (suc at) s ≡ bad (suc at + lead n s))
        → bind (pick c (ok b (suc at) s) (bad at)) (λ _. indented_r n r) ≡ bad (at + pick c (suc (lead n s)) 0)
    go true x ih = ih x ∙ ap bad (omega arith)
    go false x ih = ap bad (omega arith)

pub ind_of : {X : Type 0} {A : Lang X} (f : ℕ → Bool) → ((at : ℕ) (s : List ℕ) (v : X) (at' : ℕ) (t : List ℕ) → A at s v at' t → Starts f s)
    → (n : ℕ) (at : ℕ) (s : List ℕ) (v : X) (at' : ℕ) (t : List ℕ) → Indented n A at s v at' t → ind f n s ≡ true
ind_of f h zero at [] v at' t x = absurd (h at [] v at' t x)
ind_of f h zero at (b ∷ s) v at' t x = h at (b ∷ s) v at' t x
ind_of {A = A} f h (suc n) at s v at' t x = go s x.first (ind_of f h n x.middle x.rest v at' t x.second)
  where
    go : (s : List ℕ) {b at₁ : ℕ} {s₁ : List ℕ} → Byte (is (only 32)) at s b at₁ s₁ → ind f n s₁ ≡ true → ind f (suc n) s ≡ true
    go _ (byte e) y = rw e y
