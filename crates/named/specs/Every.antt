-- WHAT HOLDS OF EVERY VALUE that an answer gives. Assumes nothing.
use Rattle.std.specs.Prelude.{◌≡◌, List, [], ◌∷◌, Bool, true, false, ℕ}
use Rattle.std.proofs.Common.{sym, subst}
use Rattle.exact.specs.Class.{pick}
use Rattle.exact.specs.Out.{Out, Reader, bind, ok}
use Rattle.exact.specs.Comb.{alt_r}
use Rattle.exact.specs.Lines.{reached}
use Rattle.named.specs.Gives.{Gives, gives_ok, gives_reached, gives_bind}

-- ---- every value that an answer gives is such a one, with the place where it ends

pub record Every {X : Type 0} (P : X → ℕ → Type 0) (o : Out X) : Type 0 where
  pub holds : (v : X) (a : ℕ) → Gives o v a → P v a

-- .. wherever it ends
abbrev pub Always : {X : Type 0} → (X → Type 0) → Out X → Type 0
Always P o = Every (λ v a. P v) o

module _ {X : Type 0} {P : X → ℕ → Type 0} where
  pub every_ok : {v : X} {a : ℕ} {s : List ℕ} → P v a → Every P (ok v a s)
  every_ok {v} {a} {s} h = record { holds = go }
    where
      go : (w : X) (b : ℕ) → Gives (ok v a s) w b → P w b
      go w b gives_ok = h

  pub every_pick : (y : Bool) {o o' : Out X} → Every P o → Every P o' → Every P (pick y o o')
  every_pick true x z = x
  every_pick false x z = z

  pub every_alt : (f : ℕ → Bool) (r q : Reader X) (at : ℕ) (s : List ℕ) → ((at : ℕ) (s : List ℕ) → Every P (r at s)) → ((at : ℕ) (s : List ℕ) → Every P (q at s)) → Every P (alt_r f r q at s)
  every_alt f r q at [] x z = z at []
  every_alt f r q at (b ∷ s) x z = every_pick (f b) (x at (b ∷ s)) (z at (b ∷ s))

  -- by what comes last
  pub every_bind : {Y : Type 0} (o : Out Y) (k : Y → Reader X) → ((v : Y) (a : ℕ) (s : List ℕ) → Every P (k v a s)) → Every P (bind o k)
  every_bind o k h = record { holds = λ w b x. let g = gives_bind o k x in (h g.value g.middle g.left).holds w b g.second }

  -- .. or by what comes first too
  pub every_with : {Y : Type 0} {Q : Y → ℕ → Type 0} (o : Out Y) (k : Y → Reader X) → Every Q o → ((v : Y) (a : ℕ) → Q v a → (s : List ℕ) → Every P (k v a s)) → Every P (bind o k)
  every_with o k y h =
      record { holds = λ w b x. let g = gives_bind o k x in (h g.value g.middle (y.holds g.value g.middle g.first) g.left).holds w b g.second }

  pub every_reached : {o : Out X} → Every P o → (far : ℕ) (v : X) (a : ℕ) (s : List ℕ) → o ≡ reached far v a s → P v a
  every_reached h far v a s e = h.holds v a (subst (λ (u : Out X). Gives u v a) (sym e) (gives_reached far v a s))
