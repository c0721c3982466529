-- A place, an A that cannot go on, and the rest, which is told the place and the A: how it is read, what it begins with, and what is refused at once.
use Rattle.std.specs.Prelude.{◌≡◌, [], false, ℕ, ◌≤◌}
use Rattle.std.proofs.Common.{ap, subst, arith}
use Rattle.notation.specs.Lang.{Lang, ◌>>=◌, Here}
use Rattle.exact.specs.Class.{Starts, Class, is, nothing}
use Rattle.exact.specs.Out.{Reader, Tame, bind}
use Rattle.exact.specs.Lang.{Follow, Exact, within_same, weaken}
use Rattle.exact.specs.Comb.{seq_r, seq_exact}
use Rattle.exact.specs.Ll.{Shape, Ll, need, need_false, here_r, here_ll}
use Rattle.exact.specs.More.{Goes, Shuts, seq_goes, here_goes, ll_shuts}
use Rattle.blocktext.specs.Opens.{Opens, seq_opens, here_opens, ll_opens}

abbrev pub Led : {X Y : Type 0} → Lang X → (ℕ → X → Lang Y) → Lang Y
Led A B = do
  a ← Here
  x ← A
  B a x

abbrev pub led_r : {X Y : Type 0} → Reader X → (ℕ → X → Reader Y) → Reader Y
led_r r q = seq_r here_r λ a. seq_r r λ x. q a x

module _ {X : Type 0} {σ : Shape} {A : Lang X} {r : Reader X} (filled : σ.null ≡ false) (free : σ.follow ≡ []) (la : Ll σ A r) where
  pub led_exact : {Y : Type 0} {d : ℕ} {F : Follow} {B : ℕ → X → Lang Y} {q : ℕ → X → Reader Y} → ((a : ℕ) (x : X) → Exact d (B a x) F (q a x))
      → Exact 1 (Led A B) F (led_r r q)
  led_exact {F = F} e =
      let n : 1 ≤ need σ.null = need_false σ.null filled in
      weaken
      1
      F
      (omega arith)
      (within_same F)
      (seq_exact
      here_ll.exact
      (λ a. seq_exact la.exact (e a) (λ x at s y at' t b g z. nothing s (subst (λ (c : Class). Starts (is c) s) free z)))
      (λ x at s y at' t b g z. nothing s z))

  pub led_opens : {Y : Type 0} {B : ℕ → X → Lang Y} → Opens σ.first (Led A B)
  led_opens = here_opens λ a. seq_opens (ll_opens filled la)

  pub led_shuts : {Y : Type 0} (q : ℕ → X → Reader Y) → Shuts σ.first (led_r r q)
  led_shuts q =
      let h : Shuts σ.first r = ll_shuts filled la in
      record { not = λ at b s e. ap (λ o. bind o (q at)) (h.not at b s e); at_none = λ at. ap (λ o. bind o (q at)) (h.at_none at) }

pub led_goes : {X Y : Type 0} {c : Class} {d : ℕ} {r : Reader X} {q : ℕ → X → Reader Y} → Goes c r → ((a : ℕ) (x : X) → Tame d (q a x)) → Goes c (led_r r q)
led_goes g m = here_goes λ a. seq_goes (m a) g
