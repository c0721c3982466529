-- ONE MORE. A reader with an allowance, with one more and with any larger one: either it makes no difference, or the first is refused at a place that the
-- second goes beyond. So where two runs stop at one place, no allowance helps. The combinators keep this. Assumes nothing.
use Rattle.std.specs.Prelude.{◌≡◌, ◌⊎◌, Bool, true, false, ℕ, zero, suc, ◌+◌, ◌≤◌, ◌<◌, max, length, take, leb, ltb}
use Rattle.std.proofs.Math.Path.{refl, sym}
use Rattle.std.proofs.Common.{ap, subst, ◌∙◌, inl, inr, arith, leb-true, leb-false, ltb-true, ltb-false}
use mathlib.Core.List.{List, [], ◌∷◌, ◌++◌}
use Rattle.exact.specs.Verdict.{Res, Begins, Verdict, join, acc, stop, takes, stops}
use Rattle.exact.specs.Class.{Starts, pick, clash, Class, is, apart, none, is_right, only}
use Rattle.exact.specs.Out.{Out, Reader, raise, bind, fmap, finish, reach, margin, Tamed, Tame, forward, margin_kept, tamed_less, tamed_fmap, reach_raise, reach_from, reach_bind, ok, soft, bad, t_ok, t_soft, t_bad}
use Rattle.exact.specs.Lang.{Lang, Then, fits_bar, byte_r, byte_tame, End, end_r, end_verdict, end_begins, end}
use Rattle.exact.specs.Comb.{seq_r, seq_tame, alt_r, alt_tame, both, both_r, Loses, tamed_both, star_r, many_r, star_r_tame, star_tame}
use Rattle.exact.specs.Ll.{Shape, Ll, need_false, here_r, begun_starts}
use Rattle.exact.specs.Block.{star_g, many_g, star_g_tame', star_g_tame, indented_r}

-- an answer up to what makes no difference: that ok is soft as far as its own place
abbrev pub view : {X : Type 0} → Out X → Out X
view (ok v a t) = soft a v a t
view (soft p v a t) = soft (max p a) v a t
view (bad p) = bad p

-- at s, which stands at `at`: all the same; or refused at p, which is not before the end of the spaces, where one more goes beyond
pub data Step {X : Type 0} (at : ℕ) (s : List ℕ) (o₀ o₁ o₂ : Out X) : Type 0 where
  level : view o₀ ≡ view o₁ → view o₀ ≡ view o₂ → Step at s o₀ o₁ o₂
  deeper : (p : ℕ) → o₀ ≡ bad p → at + margin s ≤ p → p < reach o₁ → Step at s o₀ o₁ o₂

pub record OneMore {X : Type 0} (r₀ r₁ r₂ : Reader X) : Type 0 where
  pub tame₀ : Tame 0 r₀
  pub tame₁ : Tame 0 r₁
  pub tame₂ : Tame 0 r₂
  pub climbs : (at : ℕ) (s : List ℕ) → Step at s (r₀ at s) (r₁ at s) (r₂ at s)

pub tame_any : {X : Type 0} {d : ℕ} {r : Reader X} → Tame d r → Tame 0 r
tame_any m = record { tame = λ at s. tamed_less 0 (omega arith) (m.tame at s) }

-- the allowance is not asked
pub steady : {X : Type 0} {d : ℕ} {r : Reader X} → Tame d r → OneMore r r r
steady m = record { tame₀ = tame_any m; tame₁ = tame_any m; tame₂ = tame_any m; climbs = λ at s. level refl refl }

pub calm : {X : Type 0} {σ : Shape} {A : Lang X} {r : Reader X} → Ll σ A r → OneMore r r r
calm l = steady l.exact.moves

-- what an answer gives, and how far it goes
data Seen {X : Type 0} : Out X → ℕ → X → ℕ → List ℕ → Type 0 where
  s_ok : {v : X} {a : ℕ} {t : List ℕ} → Seen (ok v a t) a v a t
  s_soft : {p : ℕ} {v : X} {a : ℕ} {t : List ℕ} → Seen (soft p v a t) (max p a) v a t

abbrev SeenAs : {X : Type 0} → Out X → Out X → Type 0
SeenAs o (soft m v a t) = Seen o m v a t
SeenAs o (bad p) = o ≡ bad p
SeenAs o (ok v a t) = ⊥

seen_self : {X : Type 0} (o : Out X) → SeenAs o (view o)
seen_self (ok v a t) = s_ok
seen_self (soft p v a t) = s_soft
seen_self (bad p) = refl

seen : {X : Type 0} (o o' : Out X) → view o ≡ view o' → SeenAs o' (view o)
seen o o' e = subst (SeenAs o') (sym e) (seen_self o')

view_raise : {X : Type 0} (m : ℕ) (o : Out X) → view (raise m o) ≡ raise m (view o)
view_raise m (ok v a t) = refl
view_raise m (soft p v a t) = ap (λ n. soft n v a t) (omega arith)
view_raise m (bad p) = refl

raise_low : {X : Type 0} (p a : ℕ) (o : Out X) → a ≤ reach o → raise p (view o) ≡ raise (max p a) (view o)
raise_low p a (ok v b u) l = ap (λ n. soft n v b u) (omega arith)
raise_low p a (soft q v b u) l = ap (λ n. soft n v b u) (omega arith)
raise_low p a (bad q) l = ap bad (omega arith)

raise_none : {X : Type 0} (a : ℕ) (o : Out X) → a ≤ reach o → view o ≡ raise a (view o)
raise_none a (ok v b u) l = ap (λ n. soft n v b u) (omega arith)
raise_none a (soft q v b u) l = ap (λ n. soft n v b u) (omega arith)
raise_none a (bad q) l = ap bad (omega arith)

bind_seen : {X Y : Type 0} {o : Out X} {m : ℕ} {v : X} {a : ℕ} {t : List ℕ} (q : X → Reader Y) → Seen o m v a t → a ≤ reach (q v a t)
    → view (bind o q) ≡ raise m (view (q v a t))
bind_seen q (s_ok {v = v} {a = a} {t = t}) l = raise_none a (q v a t) l
bind_seen q (s_soft {p = p} {v = v} {a = a} {t = t}) l = view_raise p (q v a t) ∙ raise_low p a (q v a t) l

bind_bad : {X Y : Type 0} {o : Out X} {m : ℕ} {v : X} {a : ℕ} {t : List ℕ} (q : X → Reader Y) (p : ℕ) → Seen o m v a t → q v a t ≡ bad p → m ≤ p → bind o q ≡ bad p
bind_bad q p s_ok e l = e
bind_bad q p (s_soft {p = n}) e l = ap (raise n) e ∙ ap bad (omega arith)

bind_past : {X Y : Type 0} {o : Out X} {m : ℕ} {v : X} {a : ℕ} {t : List ℕ} (q : X → Reader Y) → Seen o m v a t → reach (q v a t) ≤ reach (bind o q)
bind_past q s_ok = omega arith
bind_past q (s_soft {p = n} {v = v} {a = a} {t = t}) = omega (arith, reach_raise n (q v a t))

-- the soft answer looks no further than the spaces that follow
seen_near : {X : Type 0} {d at : ℕ} {s : List ℕ} {o : Out X} {m : ℕ} {v : X} {a : ℕ} {t : List ℕ} → Tamed d at s o → Seen o m v a t
    → (m ≤ a + margin t) × (at + margin s ≤ a + margin t)
seen_near {X = X} {d = d} {at = at} {s = s} {m = m} {v = v} {a = a} {t = t} (t_bad p _ _) x7 = elim x7 [ ]
seen_near (t_ok m) s_ok = (omega arith, margin_kept m)
seen_near (t_soft p m l) s_soft = (omega arith, margin_kept m)

module _ {X Y : Type 0} {q₀ q₁ q₂ : X → Reader Y} (g : (x : X) → OneMore (q₀ x) (q₁ x) (q₂ x)) where
  step_seen : {at : ℕ} {s : List ℕ} {o₀ o₁ o₂ : Out X} {m : ℕ} {v : X} {a : ℕ} {t : List ℕ} → Tamed 0 at s o₀ → Seen o₀ m v a t → Seen o₁ m v a t → Seen o₂ m v a t
      → Step a t (q₀ v a t) (q₁ v a t) (q₂ v a t) → Step at s (bind o₀ q₀) (bind o₁ q₁) (bind o₂ q₂)
  step_seen {m = m} {v} {a} {t} h x y z (level e f) =
      level
      (bind_seen q₀ x (reach_from ((g v).tame₀.tame a t)) ∙ (ap (raise m) e ∙ sym (bind_seen q₁ y (reach_from ((g v).tame₁.tame a t)))))
      (bind_seen q₀ x (reach_from ((g v).tame₀.tame a t)) ∙ (ap (raise m) f ∙ sym (bind_seen q₂ z (reach_from ((g v).tame₂.tame a t)))))
  step_seen {o₁ = o₁} {m} {v} {a} {t} h x y z (deeper p e l b) =
      let n = seen_near h x in
      deeper p (bind_bad q₀ p x e (omega (arith, n.0))) (omega (arith, n.1)) (omega (arith, bind_past q₁ y))

  pub bind_step : {at : ℕ} {s : List ℕ} (o₀ o₁ o₂ : Out X) → Tamed 0 at s o₀ → Step at s o₀ o₁ o₂ → Step at s (bind o₀ q₀) (bind o₁ q₁) (bind o₂ q₂)
  bind_step o₀ o₁ o₂ h (deeper p e l b) = deeper p (ap (λ o. bind o q₀) e) l (omega (arith, reach_bind o₁ q₁ (λ x. (g x).tame₁)))
  bind_step (ok v a t) o₁ o₂ h (level e f) = step_seen h s_ok (seen (ok v a t) o₁ e) (seen (ok v a t) o₂ f) ((g v).climbs a t)
  bind_step (soft p v a t) o₁ o₂ h (level e f) = step_seen h s_soft (seen (soft p v a t) o₁ e) (seen (soft p v a t) o₂ f) ((g v).climbs a t)
  bind_step (bad p) o₁ o₂ h (level e f) =
      level (ap (λ o. view (bind o q₁)) (sym (seen (bad p) o₁ e))) (ap (λ o. view (bind o q₂)) (sym (seen (bad p) o₂ f)))

  seq_more' : {r₀ r₁ r₂ : Reader X} → OneMore r₀ r₁ r₂ → OneMore (seq_r r₀ q₀) (seq_r r₁ q₁) (seq_r r₂ q₂)
  seq_more' {r₀} {r₁} {r₂} e =
      record {
        tame₀ = tame_any (seq_tame e.tame₀ (λ x. (g x).tame₀));
        tame₁ = tame_any (seq_tame e.tame₁ (λ x. (g x).tame₁));
        tame₂ = tame_any (seq_tame e.tame₂ (λ x. (g x).tame₂));
        climbs = λ at s. bind_step (r₀ at s) (r₁ at s) (r₂ at s) (e.tame₀.tame at s) (e.climbs at s);
      }

pub seq_more : {X Y : Type 0} {r₀ r₁ r₂ : Reader X} {q₀ q₁ q₂ : X → Reader Y} → OneMore r₀ r₁ r₂ → ((x : X) → OneMore (q₀ x) (q₁ x) (q₂ x))
    → OneMore (seq_r r₀ q₀) (seq_r r₁ q₁) (seq_r r₂ q₂)
seq_more e g = seq_more' g e

step_pick : {X : Type 0} {at : ℕ} {s : List ℕ} (c : Bool) {o₀ o₁ o₂ u₀ u₁ u₂ : Out X} → (c ≡ true → Step at s o₀ o₁ o₂) → (c ≡ false → Step at s u₀ u₁ u₂)
    → Step at s (pick c o₀ u₀) (pick c o₁ u₁) (pick c o₂ u₂)
step_pick true x y = x refl
step_pick false x y = y refl

pub alt_more : {X : Type 0} (f : ℕ → Bool) {r₀ r₁ r₂ q₀ q₁ q₂ : Reader X} → OneMore r₀ r₁ r₂ → OneMore q₀ q₁ q₂ → OneMore (alt_r f r₀ q₀) (alt_r f r₁ q₁) (alt_r f r₂ q₂)
alt_more f {r₀} {r₁} {r₂} {q₀} {q₁} {q₂} x y =
    record { tame₀ = alt_tame f x.tame₀ y.tame₀; tame₁ = alt_tame f x.tame₁ y.tame₁; tame₂ = alt_tame f x.tame₂ y.tame₂; climbs = go }
  where
    go : (at : ℕ) (s : List ℕ) → Step at s (alt_r f r₀ q₀ at s) (alt_r f r₁ q₁ at s) (alt_r f r₂ q₂ at s)
    go at [] = y.climbs at []
    go at (b ∷ s) = step_pick (f b) (λ _. x.climbs at (b ∷ s)) (λ _. y.climbs at (b ∷ s))

view_fmap : {X Y : Type 0} (g : X → Y) (o : Out X) → view (fmap g o) ≡ fmap g (view o)
view_fmap g (ok v a t) = refl
view_fmap g (soft p v a t) = refl
view_fmap g (bad p) = refl

reach_fmap : {X Y : Type 0} (g : X → Y) (o : Out X) → reach (fmap g o) ≡ reach o
reach_fmap g (ok v a t) = refl
reach_fmap g (soft p v a t) = refl
reach_fmap g (bad p) = refl

fmap_step : {X Y : Type 0} {at : ℕ} {s : List ℕ} (g : X → Y) (o₀ o₁ o₂ : Out X) → Step at s o₀ o₁ o₂ → Step at s (fmap g o₀) (fmap g o₁) (fmap g o₂)
fmap_step g o₀ o₁ o₂ (level e f) =
    level (view_fmap g o₀ ∙ (ap (fmap g) e ∙ sym (view_fmap g o₁))) (view_fmap g o₀ ∙ (ap (fmap g) f ∙ sym (view_fmap g o₂)))
fmap_step g o₀ o₁ o₂ (deeper p e l b) = deeper p (ap (fmap g) e) l (omega (arith, reach_fmap g o₁))

module _ {X : Type 0} {r₀ r₁ r₂ : Reader X} (e : OneMore r₀ r₁ r₂) where
  -- one turn of a star, after which the rest keeps the law
  turn : {q₀ q₁ q₂ : Reader (List X)} → OneMore q₀ q₁ q₂ → (at : ℕ) (s : List ℕ)
      → Step at s (bind (r₀ at s) (λ v a t. fmap (v ∷◌) (q₀ a t))) (bind (r₁ at s) (λ v a t. fmap (v ∷◌) (q₁ a t))) (bind (r₂ at s) (λ v a t. fmap (v ∷◌) (q₂ a t)))
  turn {q₀} {q₁} {q₂} g at s =
      bind_step
      {q₀ = λ v a t. fmap (v ∷◌) (q₀ a t)}
      {q₁ = λ v a t. fmap (v ∷◌) (q₁ a t)}
      {q₂ = λ v a t. fmap (v ∷◌) (q₂ a t)}
      (λ v.
      record {
        tame₀ = record { tame = λ a t. tamed_fmap (v ∷◌) (g.tame₀.tame a t) };
        tame₁ = record { tame = λ a t. tamed_fmap (v ∷◌) (g.tame₁.tame a t) };
        tame₂ = record { tame = λ a t. tamed_fmap (v ∷◌) (g.tame₂.tame a t) };
        climbs = λ a t. fmap_step (v ∷◌) (q₀ a t) (q₁ a t) (q₂ a t) (g.climbs a t);
      })
      (r₀ at s)
      (r₁ at s)
      (r₂ at s)
      (e.tame₀.tame at s)
      (e.climbs at s)

  pub star_more : (f : ℕ → Bool) → OneMore (many_r f r₀) (many_r f r₁) (many_r f r₂)
  star_more f =
      record { tame₀ = star_tame f e.tame₀; tame₁ = star_tame f e.tame₁; tame₂ = star_tame f e.tame₂; climbs = λ at s. (turns (length s)).climbs at s }
    where
      turns : (n : ℕ) → OneMore (star_r f r₀ n) (star_r f r₁ n) (star_r f r₂ n)
      turns n =
          record { tame₀ = star_r_tame f e.tame₀ n; tame₁ = star_r_tame f e.tame₁ n; tame₂ = star_r_tame f e.tame₂ n; climbs = go n }
        where
          go : (n at : ℕ) (s : List ℕ) → Step at s (star_r f r₀ n at s) (star_r f r₁ n at s) (star_r f r₂ n at s)
          go zero at s = level refl refl
          go (suc n) at [] = level refl refl
          go (suc n) at (b ∷ s) =
              step_pick
              (f b)
              (λ _.
              turn
              {q₀ = star_r f r₀ n}
              {q₁ = star_r f r₁ n}
              {q₂ = star_r f r₂ n}
              (record { tame₀ = star_r_tame f e.tame₀ n; tame₁ = star_r_tame f e.tame₁ n; tame₂ = star_r_tame f e.tame₂ n; climbs = go n })
              at
              (b ∷ s))
              (λ _. level refl refl)

  pub star_g_more : (g : List ℕ → Bool) (far : List ℕ → ℕ) → ((s : List ℕ) → far s ≤ margin s) → OneMore (many_g g far r₀) (many_g g far r₁) (many_g g far r₂)
  star_g_more g far near =
      record {
        tame₀ = star_g_tame g far near e.tame₀;
        tame₁ = star_g_tame g far near e.tame₁;
        tame₂ = star_g_tame g far near e.tame₂;
        climbs = λ at s. go (length s) at s;
      }
    where
      go : (n at : ℕ) (s : List ℕ) → Step at s (star_g g far r₀ n at s) (star_g g far r₁ n at s) (star_g g far r₂ n at s)
      go zero at s = level refl refl
      go (suc n) at s =
          step_pick
          (g s)
          (λ _.
          turn
          {q₀ = star_g g far r₀ n}
          {q₁ = star_g g far r₁ n}
          {q₂ = star_g g far r₂ n}
          (record { tame₀ = star_g_tame' g far near e.tame₀ n; tame₁ = star_g_tame' g far near e.tame₁ n; tame₂ = star_g_tame' g far near e.tame₂ n; climbs = go n })
          at
          s)
          (λ _. level refl refl)

pub indented_more : {X : Type 0} (n : ℕ) {r₀ r₁ r₂ : Reader X} → OneMore r₀ r₁ r₂ → OneMore (indented_r n r₀) (indented_r n r₁) (indented_r n r₂)
indented_more zero e = e
indented_more (suc n) e = seq_more (steady (byte_tame (is (only 32)))) λ _. indented_more n e

-- OPENINGS. The reader goes beyond a first byte of c; it refuses at once what begins with another
pub record Goes {X : Type 0} (c : Class) (r : Reader X) : Type 0 where
  pub goes : (at b : ℕ) (s : List ℕ) → is c b ≡ true → at < reach (r at (b ∷ s))

pub record Shuts {X : Type 0} (c : Class) (r : Reader X) : Type 0 where
  pub not : (at b : ℕ) (s : List ℕ) → is c b ≡ false → r at (b ∷ s) ≡ bad at
  pub at_none : (at : ℕ) → r at [] ≡ bad at

pub byte_goes : (c : Class) → Goes c (byte_r (is c))
byte_goes c = record { goes = λ at b s e. subst (λ (x : Bool). at < reach (pick x (ok b (suc at) s) (bad at))) (sym e) (omega arith) }

pub seq_goes : {X Y : Type 0} {c : Class} {d : ℕ} {r : Reader X} {q : X → Reader Y} → ((x : X) → Tame d (q x)) → Goes c r → Goes c (seq_r r q)
seq_goes {r = r} {q} m o = record { goes = λ at b s e. omega (arith, o.goes at b s e, reach_bind (r at (b ∷ s)) q m) }

pub here_goes : {X : Type 0} {c : Class} {q : ℕ → Reader X} → ((a : ℕ) → Goes c (q a)) → Goes c (seq_r here_r q)
here_goes o = record { goes = λ at b s e. (o at).goes at b s e }

pub alt_goes : {X : Type 0} {c d : Class} {r q : Reader X} → Goes c r → Goes d q → Goes (c ++ d) (alt_r (is c) r q)
alt_goes {c = c} {d} {r} {q} x y = record { goes = λ at b s e. go at b s (is c b) refl e }
  where
    go : (at b : ℕ) (s : List ℕ) (z : Bool) → is c b ≡ z → is (c ++ d) b ≡ true → at < reach (pick z (r at (b ∷ s)) (q at (b ∷ s)))
    go at b s true z e = x.goes at b s z
    go at b s false z e = y.goes at b s (is_right c d b z e)

-- what an exact reader of a language that is never empty refuses, it refuses at once
stop_bad : {X : Type 0} {at : ℕ} {s : List ℕ} {o : Out X} → Tamed 1 at s o → finish o end_r ≡ stop at → o ≡ bad at
stop_bad {X} {at} (t_ok {v = v} {a = a} {t = t} m) e = go t e
  where
    go : (t : List ℕ) → end_r v a t ≡ stop at → ok v a t ≡ bad at
    go [] e = let z : ◌≡◌ {A = ℕ} 0 1 = cc in absurd (omega arith)
    go (b ∷ t) e = let z : a ≡ at = cc in absurd (omega (arith, forward m))
stop_bad {X} {at} (t_soft {v = v} {a = a} {t = t} p m l) e = go t e
  where
    go : (t : List ℕ) → join (stop p) (end_r v a t) ≡ stop at → soft p v a t ≡ bad at
    go [] e = let z : ◌≡◌ {A = ℕ} 0 1 = cc in absurd (omega arith)
    go (b ∷ t) e = let z : max p a ≡ at = cc in absurd (omega (arith, forward m))
stop_bad {at = at} (t_bad p l h) e = let z : p ≡ at = cc in ap bad z

pub ll_shuts : {X : Type 0} {σ : Shape} {A : Lang X} {r : Reader X} → σ.null ≡ false → Ll σ A r → Shuts σ.first r
ll_shuts {X} {σ} {A} {r} n l =
    record {
      not = λ at b s e. stop_bad (tamed at (b ∷ s)) (stop_cons at b s e (verdict at (b ∷ s)));
      at_none = λ at. stop_bad (tamed at []) (stop_nil at (verdict at []));
    }
  where
    tamed : (at : ℕ) (s : List ℕ) → Tamed 1 at s (r at s)
    tamed at s = tamed_less 1 (need_false σ.null n) (l.exact.moves.tame at s)

    verdict : (at : ℕ) (s : List ℕ) → Verdict (Then A End at) at s (finish (r at s) end_r)
    verdict at s =
        l.exact.run End end_r end_begins (fits_bar (λ v a t w x y. closed x y)) at s (λ v a s' m. end_verdict v a s')
      where
        closed : {v : X} {a : ℕ} {t : List ℕ} {w : X} → End v a t w → Starts (is σ.follow) t → ⊥
        closed end y = y

    no : (at b : ℕ) (t : List ℕ) → is σ.first b ≡ false → (w : X) → Then A End at (b ∷ t) w → ⊥
    no at b t e w x = clash (begun_starts σ n (l.begun at (b ∷ t) x.value x.next x.rest x.first)) e

    none_at : (at : ℕ) (w : X) → Then A End at [] w → ⊥
    none_at at w x = begun_starts σ n (l.begun at [] x.value x.next x.rest x.first)

    stop_cons : (at b : ℕ) (s : List ℕ) → is σ.first b ≡ false → {f : Res X} → Verdict (Then A End at) at (b ∷ s) f → f ≡ stop at
    stop_cons at b s e (takes w x u) = absurd (no at b s e w x)
    stop_cons at b s e (stops p v z) = go v.n v.here v.viable
      where
        go : (n : ℕ) → p ≡ at + n → Begins (Then A End at) (take n (b ∷ s)) → ◌≡◌ {A = Res X} (stop p) (stop at)
        go zero h g = ap stop (omega arith)
        go (suc n) h g = absurd (no at b _ e g.value g.word)

    stop_nil : (at : ℕ) {f : Res X} → Verdict (Then A End at) at [] f → f ≡ stop at
    stop_nil at (takes w x u) = absurd (none_at at w x)
    stop_nil at (stops p v z) = let h = v.here in let m = v.within in ap stop (omega arith)

-- the byte b is no space: nothing but itself is before it
no_margin : (c : Class) (b at : ℕ) (s : List ℕ) → apart c (only 32) ≡ true → is c b ≡ true → at + margin (b ∷ s) ≤ at
no_margin c b at s h e = by (is (only 32) b) refl
  where
    by : (x : Bool) → is (only 32) b ≡ x → at + pick x (suc (margin s)) 0 ≤ at
    by true z = absurd (none c (only 32) b h e z)
    by false z = omega arith

-- A NEW CHOICE, which begins with a byte of c, comes before or after what was there without it
module _ {X : Type 0} {c d : Class} {q₀ q₁ q₂ r₁ r₂ : Reader X} (h : apart c (only 32) ≡ true) (e : OneMore q₀ q₁ q₂) (m₁ : Tame 0 r₁) (m₂ : Tame 0 r₂) (o₁ : Goes c r₁)
    (o₀ : Shuts d q₀) where
  pub new_before : apart c d ≡ true → OneMore q₀ (alt_r (is c) r₁ q₁) (alt_r (is c) r₂ q₂)
  new_before a = record { tame₀ = e.tame₀; tame₁ = alt_tame (is c) m₁ e.tame₁; tame₂ = alt_tame (is c) m₂ e.tame₂; climbs = go }
    where
      go : (at : ℕ) (s : List ℕ) → Step at s (q₀ at s) (alt_r (is c) r₁ q₁ at s) (alt_r (is c) r₂ q₂ at s)
      go at [] = e.climbs at []
      go at (b ∷ s) = by (is c b) refl (is d b) refl
        where
          by : (x : Bool) → is c b ≡ x → (y : Bool) → is d b ≡ y → Step at (b ∷ s) (q₀ at (b ∷ s)) (pick x (r₁ at (b ∷ s)) (q₁ at (b ∷ s))) (pick x (r₂ at (b ∷ s)) (q₂ at (b ∷ s)))
          by true x true y = absurd (none c d b a x y)
          by true x false y = deeper at (o₀.not at b s y) (no_margin c b at s h x) (o₁.goes at b s x)
          by false x y z = e.climbs at (b ∷ s)

  pub new_after : Shuts c r₁ → Shuts c r₂ → OneMore q₀ (alt_r (is d) q₁ r₁) (alt_r (is d) q₂ r₂)
  new_after u₁ u₂ = record { tame₀ = e.tame₀; tame₁ = alt_tame (is d) e.tame₁ m₁; tame₂ = alt_tame (is d) e.tame₂ m₂; climbs = go }
    where
      go : (at : ℕ) (s : List ℕ) → Step at s (q₀ at s) (alt_r (is d) q₁ r₁ at s) (alt_r (is d) q₂ r₂ at s)
      go at [] = level (ap view (o₀.at_none at ∙ sym (u₁.at_none at))) (ap view (o₀.at_none at ∙ sym (u₂.at_none at)))
      go at (b ∷ s) = by (is d b) refl (is c b) refl
        where
          by : (x : Bool) → is d b ≡ x → (y : Bool) → is c b ≡ y → Step at (b ∷ s) (q₀ at (b ∷ s)) (pick x (q₁ at (b ∷ s)) (r₁ at (b ∷ s))) (pick x (q₂ at (b ∷ s)) (r₂ at (b ∷ s)))
          by true x y z = e.climbs at (b ∷ s)
          by false x true z = deeper at (o₀.not at b s x) (no_margin c b at s h z) (o₁.goes at b s z)
          by false x false z = level (ap view (o₀.not at b s x ∙ sym (u₁.not at b s z))) (ap view (o₀.not at b s x ∙ sym (u₂.not at b s z)))

-- TWO AT ONCE. Which of two wins, told from the text: the second, and the first is refused at p; the first, and the second is refused at q; or both are refused
pub data Which : Type 0 where
  second : Which
  first : Which
  neither : Which

abbrev pub Spot : {X : Type 0} → Which → ℕ → ℕ → Out X → Out X → Type 0
Spot second p q o o' = (o ≡ bad p) × (p < reach o')
Spot first p q o o' = (o' ≡ bad q) × (q ≤ reach o)
Spot neither p q o o' = (o ≡ bad p) × (o' ≡ bad q)

number : Which → ℕ
number second = 0
number first = 1
number neither = 2

second_first : second ≡ first → ⊥
unfolding number
second_first e = let h : number second ≡ number first = ap number e in omega arith

neither_first : neither ≡ first → ⊥
unfolding number
neither_first e = let h : number neither ≡ number first = ap number e in omega arith

-- the same for every allowance
pub record Meet {X : Type 0} (w : ℕ → List ℕ → Which) (p q : ℕ → List ℕ → ℕ) (r r' : Reader X) : Type 0 where
  pub spot : (at : ℕ) (s : List ℕ) → Spot (w at s) (p at s) (q at s) (r at s) (r' at s)

loses : {X : Type 0} (w : Which) (p q : ℕ) (o o' : Out X) → Spot w p q o o' → Loses o o' ⊎ Loses o' o
loses second p q o o' h = inl (subst (λ x. Loses x o') (sym h.0) (omega (arith, h.1)))
loses first p q o o' h = inr (subst (λ x. Loses x o) (sym h.0) h.1)
loses neither p q o o' h = by (leb p q) refl
  where
    by : (c : Bool) → leb p q ≡ c → Loses o o' ⊎ Loses o' o
    by true e = inl (subst (λ x. Loses x o') (sym h.0) (subst (λ x. p ≤ reach x) (sym h.1) (leb-true p q e)))
    by false e = inr (subst (λ x. Loses x o) (sym h.1) (subst (λ x. q ≤ reach x) (sym h.0) (omega (arith, leb-false p q e))))

view_second : {X : Type 0} (p : ℕ) (o : Out X) → p < reach o → view (raise p o) ≡ view o
view_second p o l = view_raise p o ∙ sym (raise_none p o (omega arith))

view_first : {X : Type 0} (q : ℕ) (o : Out X) → q ≤ reach o → view (both o (bad q)) ≡ view o
view_first q (ok v a t) l = ap (λ n. soft n v a t) (omega arith)
view_first q (soft p v a t) l = ap (λ n. soft n v a t) (omega arith)
view_first q (bad p) l = ap bad (omega arith)

past_both : {X : Type 0} (o o' : Out X) → reach o ≤ reach (both o o')
past_both (bad p) o = omega (arith, reach_raise p o)
past_both (ok v a t) (bad q) = omega arith
past_both (ok v a t) (ok v' a' t') = omega arith
past_both (ok v a t) (soft q v' a' t') = omega arith
past_both (soft p v a t) (bad q) = omega arith
past_both (soft p v a t) (ok v' a' t') = omega arith
past_both (soft p v a t) (soft q v' a' t') = omega arith

reach_view : {X : Type 0} (o : Out X) → reach (view o) ≡ reach o
reach_view (ok v a t) = omega arith
reach_view (soft p v a t) = omega arith
reach_view (bad p) = refl

-- for answers that give the same and go as far
pub step_same : {X : Type 0} {at : ℕ} {s : List ℕ} (o₀ o₁ o₂ u₀ u₁ u₂ : Out X) → view u₀ ≡ view o₀ → view u₁ ≡ view o₁ → view u₂ ≡ view o₂
    → Step at s o₀ o₁ o₂ → Step at s u₀ u₁ u₂
step_same o₀ o₁ o₂ u₀ u₁ u₂ x y z (level e f) = level (x ∙ (e ∙ sym y)) (x ∙ (f ∙ sym z))
step_same o₀ o₁ o₂ u₀ u₁ u₂ x y z (deeper n e m b) =
    let h : reach u₁ ≡ reach o₁ = sym (reach_view u₁) ∙ (ap reach y ∙ reach_view o₁) in
    deeper n (seen (bad n) u₀ (ap view (sym e) ∙ sym x)) m (omega arith)

module _ {X : Type 0} {w : ℕ → List ℕ → Which} {p q : ℕ → List ℕ → ℕ} where
  pub meet_loses : {r r' : Reader X} → Meet w p q r r' → (at : ℕ) (s : List ℕ) → Loses (r at s) (r' at s) ⊎ Loses (r' at s) (r at s)
  meet_loses {r} {r'} m at s = loses (w at s) (p at s) (q at s) (r at s) (r' at s) (m.spot at s)

  tame_both : {r q' : Reader X} → Meet w p q r q' → Tame 0 r → Tame 0 q' → Tame 0 (both_r r q')
  unfolding both_r
  tame_both m a b = record { tame = λ at s. tamed_both (meet_loses m at s) (a.tame at s) (b.tame at s) }

  module _ {r₀ r₁ r₂ q₀ q₁ q₂ : Reader X} (x : OneMore r₀ r₁ r₂) (y : OneMore q₀ q₁ q₂) (m₁ : Meet w p q r₁ q₁) (m₂ : Meet w p q r₂ q₂) where
    -- both were there
    pub both_more : Meet w p q r₀ q₀ → OneMore (both_r r₀ q₀) (both_r r₁ q₁) (both_r r₂ q₂)
    unfolding both_r
    both_more m₀ =
        record {
          tame₀ = tame_both m₀ x.tame₀ y.tame₀;
          tame₁ = tame_both m₁ x.tame₁ y.tame₁;
          tame₂ = tame_both m₂ x.tame₂ y.tame₂;
          climbs = λ at s. go at s (w at s) (p at s) (q at s) (m₀.spot at s) (m₁.spot at s) (m₂.spot at s);
        }
      where
        go : (at : ℕ) (s : List ℕ) (w : Which) (p q : ℕ) → Spot w p q (r₀ at s) (q₀ at s) → Spot w p q (r₁ at s) (q₁ at s) → Spot w p q (r₂ at s) (q₂ at s)
            → Step at s (both (r₀ at s) (q₀ at s)) (both (r₁ at s) (q₁ at s)) (both (r₂ at s) (q₂ at s))
        go at s second p q h₀ h₁ h₂ =
            rw (h₀.0, h₁.0, h₂.0)
            (step_same
            (q₀ at s)
            (q₁ at s)
            (q₂ at s)
            (raise p (q₀ at s))
            (raise p (q₁ at s))
            (raise p (q₂ at s))
            (view_second p (q₀ at s) h₀.1)
            (view_second p (q₁ at s) h₁.1)
            (view_second p (q₂ at s) h₂.1)
            (y.climbs at s))
        go at s first p q h₀ h₁ h₂ =
            rw (h₀.0, h₁.0, h₂.0)
            (step_same
            (r₀ at s)
            (r₁ at s)
            (r₂ at s)
            (both (r₀ at s) (bad q))
            (both (r₁ at s) (bad q))
            (both (r₂ at s) (bad q))
            (view_first q (r₀ at s) h₀.1)
            (view_first q (r₁ at s) h₁.1)
            (view_first q (r₂ at s) h₂.1)
            (x.climbs at s))
        go at s neither p q h₀ h₁ h₂ = rw (h₀.0, h₁.0, h₂.0, h₀.1, h₁.1, h₂.1) (level refl refl)

  -- the second was not there; where the first does not win, it is not refused before the end of the spaces
  pub both_new : {r₀ r₁ r₂ q₁ q₂ : Reader X} → OneMore r₀ r₁ r₂ → Tame 0 q₁ → Tame 0 q₂ → Meet w p q r₁ q₁ → Meet w p q r₂ q₂
      → ((at : ℕ) (s : List ℕ) → (w at s ≡ first) ⊎ (at + margin s ≤ p at s)) → OneMore r₀ (both_r r₁ q₁) (both_r r₂ q₂)
  unfolding both_r
  both_new {r₀} {r₁} {r₂} {q₁} {q₂} x y₁ y₂ m₁ m₂ flat =
      record {
        tame₀ = x.tame₀;
        tame₁ = tame_both m₁ x.tame₁ y₁;
        tame₂ = tame_both m₂ x.tame₂ y₂;
        climbs = λ at s. go at s (w at s) (p at s) (q at s) (flat at s) (m₁.spot at s) (m₂.spot at s);
      }
    where
      -- the first is refused at n, with whatever allowance
      refused : (at : ℕ) (s : List ℕ) (n : ℕ) (u₁ u₂ : Out X) → r₁ at s ≡ bad n → reach (r₁ at s) ≤ reach u₁
          → (r₀ at s ≡ bad n → Step at s (r₀ at s) u₁ u₂) → Step at s (r₀ at s) (r₁ at s) (r₂ at s) → Step at s (r₀ at s) u₁ u₂
      refused at s n u₁ u₂ e l k (level f g) = k (seen (bad n) (r₀ at s) (ap view (sym e) ∙ sym f))
      refused at s n u₁ u₂ e l k (deeper m f a b) = deeper m f a (omega arith)

      go : (at : ℕ) (s : List ℕ) (w : Which) (p q : ℕ) → (w ≡ first) ⊎ (at + margin s ≤ p) → Spot w p q (r₁ at s) (q₁ at s) → Spot w p q (r₂ at s) (q₂ at s)
          → Step at s (r₀ at s) (both (r₁ at s) (q₁ at s)) (both (r₂ at s) (q₂ at s))
      go at s first p q b h₁ h₂ =
          rw (h₁.0, h₂.0)
          (step_same
          (r₀ at s)
          (r₁ at s)
          (r₂ at s)
          (r₀ at s)
          (both (r₁ at s) (bad q))
          (both (r₂ at s) (bad q))
          refl
          (view_first q (r₁ at s) h₁.1)
          (view_first q (r₂ at s) h₂.1)
          (x.climbs at s))
      go at s second p q (inl b) h₁ h₂ = absurd (second_first b)
      go at s second p q (inr b) h₁ h₂ =
          refused
          at
          s
          p
          (both (r₁ at s) (q₁ at s))
          (both (r₂ at s) (q₂ at s))
          h₁.0
          (past_both (r₁ at s) (q₁ at s))
          (λ e. deeper p e b (rw h₁.0 (omega (arith, reach_raise p (q₁ at s), h₁.1))))
          (x.climbs at s)
      go at s neither p q (inl b) h₁ h₂ = absurd (neither_first b)
      go at s neither p q (inr b) h₁ h₂ =
          refused
          at
          s
          p
          (both (r₁ at s) (q₁ at s))
          (both (r₂ at s) (q₂ at s))
          h₁.0
          (past_both (r₁ at s) (q₁ at s))
          (λ e. by e (ltb p q) refl)
          (x.climbs at s)
        where
          by : r₀ at s ≡ bad p → (c : Bool) → ltb p q ≡ c → Step at s (r₀ at s) (both (r₁ at s) (q₁ at s)) (both (r₂ at s) (q₂ at s))
          by e true t = deeper p e b (rw (h₁.0, h₁.1) (omega (arith, ltb-true p q t)))
          by e false t = rw (e, h₁.0, h₁.1, h₂.0, h₂.1) (level (ap bad (omega (arith, ltb-false p q t))) (ap bad (omega (arith, ltb-false p q t))))

-- THE ANSWERS of three runs: the same, or the second goes beyond the place of the first
abbrev pub Beyond : {W : Type 0} → ℕ → Res W → Type 0
Beyond p (acc w) = Unit {0}
Beyond p (stop q) = p < q

pub data Runs {W : Type 0} (f₀ f₁ f₂ : Res W) : Type 0 where
  alike : f₀ ≡ f₁ → f₀ ≡ f₂ → Runs f₀ f₁ f₂
  beyond : (p : ℕ) → f₀ ≡ stop p → Beyond p f₁ → Runs f₀ f₁ f₂

-- what is done at the end refuses nothing before its start
abbrev pub Onward : {W : Type 0} → ℕ → Res W → Type 0
Onward a (acc w) = Unit {0}
Onward a (stop q) = a ≤ q

module _ {X W : Type 0} (k : X → ℕ → List ℕ → Res W) (onward : (v : X) (a : ℕ) (t : List ℕ) → Onward a (k v a t)) where
  join_on : (a : ℕ) (f : Res W) → Onward a f → f ≡ join (stop a) f
  join_on a (acc w) h = refl
  join_on a (stop q) h = ap stop (omega arith)

  join_max : (p a : ℕ) (f : Res W) → Onward a f → join (stop p) f ≡ join (stop (max p a)) f
  join_max p a (acc w) h = refl
  join_max p a (stop q) h = ap stop (omega arith)

  finish_seen : {o : Out X} {m : ℕ} {v : X} {a : ℕ} {t : List ℕ} → Seen o m v a t → finish o k ≡ join (stop m) (k v a t)
  finish_seen (s_ok {v = v} {a = a} {t = t}) = join_on a (k v a t) (onward v a t)
  finish_seen (s_soft {p = p} {v = v} {a = a} {t = t}) = join_max p a (k v a t) (onward v a t)

  finish_past : (p : ℕ) (o : Out X) → p < reach o → Beyond p (finish o k)
  finish_past p (ok v a t) l = go (k v a t) (onward v a t)
    where
      go : (f : Res W) → Onward a f → Beyond p f
      go (acc w) h = tt
      go (stop q) h = omega arith
  finish_past p (soft n v a t) l = go (k v a t) (onward v a t)
    where
      go : (f : Res W) → Onward a f → Beyond p (join (stop n) f)
      go (acc w) h = tt
      go (stop q) h = omega arith
  finish_past p (bad q) l = l

  pub finish_more : {at : ℕ} {s : List ℕ} (o₀ o₁ o₂ : Out X) → Step at s o₀ o₁ o₂ → Runs (finish o₀ k) (finish o₁ k) (finish o₂ k)
  finish_more o₀ o₁ o₂ (deeper p e l b) = beyond p (ap (λ o. finish o k) e) (finish_past p o₁ b)
  finish_more (ok v a t) o₁ o₂ (level e f) =
      alike (finish_seen s_ok ∙ sym (finish_seen (seen (ok v a t) o₁ e))) (finish_seen s_ok ∙ sym (finish_seen (seen (ok v a t) o₂ f)))
  finish_more (soft p v a t) o₁ o₂ (level e f) =
      alike (finish_seen s_soft ∙ sym (finish_seen (seen (soft p v a t) o₁ e))) (finish_seen s_soft ∙ sym (finish_seen (seen (soft p v a t) o₂ f)))
  finish_more (bad p) o₁ o₂ (level e f) = alike (ap (λ o. finish o k) (sym (seen (bad p) o₁ e))) (ap (λ o. finish o k) (sym (seen (bad p) o₂ f)))

onward_less : {W : Type 0} (a b : ℕ) (f : Res W) → a ≤ b → Onward b f → Onward a f
onward_less a b (acc w) l h = tt
onward_less a b (stop q) l h = omega arith

onward_join : {W : Type 0} (a p : ℕ) (f : Res W) → Onward a f → Onward a (join (stop p) f)
onward_join a p (acc w) h = tt
onward_join a p (stop q) h = omega arith

-- a tame reader, and then what refuses nothing before its start
pub finish_onward : {X W : Type 0} {d at : ℕ} {s : List ℕ} {o : Out X} (k : X → ℕ → List ℕ → Res W) → ((v : X) (a : ℕ) (t : List ℕ) → Onward a (k v a t))
    → Tamed d at s o → Onward at (finish o k)
finish_onward {at = at} k h (t_ok {v = v} {a = a} {t = t} m) = onward_less at a (k v a t) (omega (arith, forward m)) (h v a t)
finish_onward {at = at} k h (t_soft {v = v} {a = a} {t = t} p m l) = onward_join at p (k v a t) (onward_less at a (k v a t) (omega (arith, forward m)) (h v a t))
finish_onward k h (t_bad p l m) = l

pub end_onward : {X : Type 0} (v : X) (a : ℕ) (t : List ℕ) → Onward a (end_r v a t)
end_onward v a [] = tt
end_onward v a (b ∷ t) = omega arith
