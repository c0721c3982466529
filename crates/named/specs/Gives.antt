-- ANSWERS THAT GIVE A VALUE, and where it ends. Assumes nothing.
use Rattle.std.specs.Prelude.{◌≡◌, refl, List, ℕ, zero, suc, ◌≤◌}
use Rattle.std.proofs.Common.{arith}
use Rattle.exact.specs.Out.{Out, Reader, raise, bind, fmap, ok, soft, bad, Tamed, t_ok, t_soft, forward}
use Rattle.exact.specs.Lines.{reached}

-- an answer gives the value v, which ends at a
pub data Gives {X : Type 0} : Out X → X → ℕ → Type 0 where
  gives_ok : {v : X} {a : ℕ} {s : List ℕ} → Gives (ok v a s) v a
  gives_soft : {p : ℕ} {v : X} {a : ℕ} {s : List ℕ} → Gives (soft p v a s) v a

-- ---- answers that give a value

module _ {X : Type 0} where
  pub gives_reached : (far : ℕ) (v : X) (a : ℕ) (s : List ℕ) → Gives (reached far v a s) v a
  gives_reached zero v a s = gives_ok
  gives_reached (suc far) v a s = gives_soft

  pub reached_gives : (far : ℕ) (w : X) (b : ℕ) (s : List ℕ) {v : X} {a : ℕ} → Gives (reached far w b s) v a → (v ≡ w) × (a ≡ b)
  reached_gives zero w b s gives_ok = (refl, refl)
  reached_gives (suc far) w b s gives_soft = (refl, refl)

  pub gives_none : {p : ℕ} {v : X} {a : ℕ} → Gives (bad p) v a → ⊥
  gives_none x = elim x [ ]

  pub gives_raise : (p : ℕ) (o : Out X) {v : X} {a : ℕ} → Gives (raise p o) v a → Gives o v a
  gives_raise p (ok v a s) gives_soft = gives_ok
  gives_raise p (soft q v a s) gives_soft = gives_soft
  gives_raise p (bad q) x = absurd (gives_none x)

  -- the value ends no earlier than it begins
  pub gives_forward : {d at : ℕ} {s : List ℕ} {o : Out X} {v : X} {a : ℕ} → Tamed d at s o → Gives o v a → at ≤ a
  gives_forward {d = d} {at = at} {s = s} {v = v} {a = a} (Rattle.exact.specs.Out.t_bad p _ _) x7 = elim x7 [ ]
  gives_forward (t_ok m) gives_ok = omega (arith, forward m)
  gives_forward (t_soft p m l) gives_soft = omega (arith, forward m)

-- by a reader behind another
pub record Bound {X Y : Type 0} (o : Out X) (q : X → Reader Y) (w : Y) (a : ℕ) : Type 0 where
  pub value : X
  pub middle : ℕ
  pub left : List ℕ
  pub first : Gives o value middle
  pub second : Gives (q value middle left) w a

pub gives_bind : {X Y : Type 0} (o : Out X) (q : X → Reader Y) {w : Y} {a : ℕ} → Gives (bind o q) w a → Bound o q w a
gives_bind (ok v m t) q x = record { value = v; middle = m; left = t; first = gives_ok; second = x }
gives_bind (soft p v m t) q x = record { value = v; middle = m; left = t; first = gives_soft; second = gives_raise p (q v m t) x }
gives_bind (bad p) q x = absurd (gives_none x)

-- .. which only hands on a value known before
pub gives_behind : {X Y : Type 0} {d at : ℕ} {s : List ℕ} (o : Out X) → Tamed d at s o → (v : Y) {w : Y} {a : ℕ} → Gives (bind o (λ _. ok v)) w a → (w ≡ v) × (at ≤ a)
gives_behind o t v x =
    let b = gives_bind o (λ _. ok v) x in
    let e = reached_gives 0 v b.middle b.left b.second in
    (e.0, omega (arith, gives_forward t b.first, e.1))

-- what gives a value behind another
pub record Mapped {X Y : Type 0} (g : X → Y) (o : Out X) (w : Y) (a : ℕ) : Type 0 where
  pub value : X
  pub gives : Gives o value a
  pub is : w ≡ g value

pub gives_fmap : {X Y : Type 0} (g : X → Y) (o : Out X) {w : Y} {a : ℕ} → Gives (fmap g o) w a → Mapped g o w a
gives_fmap g (ok v a s) gives_ok = record { value = v; gives = gives_ok; is = refl }
gives_fmap g (soft p v a s) gives_soft = record { value = v; gives = gives_soft; is = refl }
gives_fmap g (bad p) x = absurd (gives_none x)
