-- OVERLAYS IN ANY GROUPING (02, Ticket 12): of three trees both groupings clash, or both give equal trees, key order included (`any_grouping`). Assumes nothing.
use Rattle.std.specs.Prelude.{◌≡◌, refl, ◌⊎◌, Bool, true, false, ℕ}
use Rattle.std.proofs.Common.{sym, ap, ◌∙◌, inl, inr}
use Rattle.language.specs.Tree.{Tree}
use Rattle.language.specs.Alike.{unspan}
use Rattle.language.specs.Answered.{deepest}
use Rattle.exact.specs.Tells.{Tells}
use Rattle.sound.specs.Members.{Sane}
use Rattle.overlay.specs.Overlay.{Laid, laid, clash, onward, overlay}
use Rattle.overlay.specs.Over.{clashes, over, clash_or_over}
use Rattle.overlay.proofs.WholeLaws.{over_sane}
use Rattle.overlay.specs.Unspanned.{sane_unspan}
use Rattle.overlay.proofs.WalkedLaws.{overlay_either}
use Rattle.overlay.specs.Profiles.{ProfileTree, tree_sane}
use Rattle.overlay.proofs.ResultLaws.{overlay_bare}
use Rattle.overlay.specs.Clash.{Clash, clash_sym}
use Rattle.overlay.proofs.ClashLaws.{clashes_tells, clash_told, over_told}
use Rattle.overlay.proofs.ClashingLaws.{clash_down, clash_up}
use Rattle.overlay.proofs.GroupedLaws.{over_grouped}
use Rattle.overlay.specs.Grouping.{lower_two_first, onward_same, upper_two_first}

module _ (k : ℕ) (a b c : Tree) (x : Sane k a) (y : Sane k b) (z : Sane k c) where
  ab : Sane k (over a b)
  ab = over_sane k a b x y

  bc : Sane k (over b c)
  bc = over_sane k b c y z

  -- where the two upper ones do not clash, a clash of the lowest with one of them is a clash with both
  lowest : (Clash b c → ⊥) → Clash b a ⊎ Clash c a → clash_or_over a (over b c) ≡ clash
  lowest n d = clash_told k a (over b c) x bc (clash_sym (clash_up k b c a y z x n d))

  highest : (Clash a b → ⊥) → Clash a c ⊎ Clash b c → clash_or_over (over a b) c ≡ clash
  highest n d = clash_told k (over a b) c ab z (clash_up k a b c x y z n d)

  -- where neither first step clashes
  second_steps : (Clash a b → ⊥) → (Clash b c → ⊥) → clash_or_over (over a b) c ≡ clash_or_over a (over b c)
  second_steps n m = by (clashes a c) (clashes_tells k a c x z)
    where
      or_none : Clash b a ⊎ Clash c a → (Clash a c → ⊥) → ⊥
      or_none (inl d) l = n (clash_sym d)
      or_none (inr d) l = l (clash_sym d)

      and_none : Clash a c ⊎ Clash b c → (Clash a c → ⊥) → ⊥
      and_none (inl d) l = l d
      and_none (inr d) l = m d

      by : (r : Bool) → Tells (Clash a c) r → clash_or_over (over a b) c ≡ clash_or_over a (over b c)
      by true d = highest n (inl d) ∙ sym (lowest m (inr (clash_sym d)))
      by false l =
          over_told k (over a b) c ab z (λ d. and_none (clash_down k a b c x y z d) l)
          ∙ (ap laid (over_grouped k a b c x y z (record { lower_upper = n; lower_top = l; upper_top = m }))
          ∙ sym (over_told k a (over b c) x bc (λ d. or_none (clash_down k b c a y z x (clash_sym d)) l)))

  either_grouping : onward (clash_or_over a b) (λ t. clash_or_over t c) ≡ onward (clash_or_over b c) (λ t. clash_or_over a t)
  either_grouping = by (clashes a b) (clashes b c) (clashes_tells k a b x y) (clashes_tells k b c y z)
    where
      by : (p q : Bool) → Tells (Clash a b) p → Tells (Clash b c) q → onward (clash_or_over a b) (λ t. clash_or_over t c) ≡ onward (clash_or_over b c) (λ t. clash_or_over a t)
      by true true d e = rw (clash_told k a b x y d, clash_told k b c y z e)
      by true false d m = rw (clash_told k a b x y d, over_told k b c y z m) (sym (lowest m (inl (clash_sym d))))
      by false true n e = rw (over_told k a b x y n, clash_told k b c y z e) (highest n (inr e))
      by false false n m = rw (over_told k a b x y n, over_told k b c y z m) (second_steps n m)

-- THE THEOREM, whatever the roots are, and so of objects: both are `clash`, or both are `laid` with equal trees
pub any_grouping : (fleet region site : Tree) → ProfileTree fleet → ProfileTree region → ProfileTree site → lower_two_first fleet region site ≡ upper_two_first fleet region site
any_grouping a b c x y z =
    onward_same (overlay a b) (λ t. overlay t c) (λ t. clash_or_over t (unspan c)) (λ t e. overlay_either t c ∙ ap (λ (r : Tree). clash_or_over r (unspan c)) (overlay_bare a b e))
    ∙ (ap (λ (l : Laid). onward l (λ t. clash_or_over t (unspan c))) (overlay_either a b)
    ∙ (either_grouping deepest (unspan a) (unspan b) (unspan c) (sane_unspan a (tree_sane x)) (sane_unspan b (tree_sane y)) (sane_unspan c (tree_sane z))
    ∙ (ap (λ (l : Laid). onward l (λ t. clash_or_over (unspan a) t)) (sym (overlay_either b c))
    ∙ onward_same (overlay b c) (λ t. clash_or_over (unspan a) t) (λ t. overlay a t) (λ t e. sym (overlay_either a t ∙ ap (clash_or_over (unspan a)) (overlay_bare b c e))))))
