-- The pairs inside `<..>` are those of a hex line, settled: a space that no pair follows is refused behind it. Assumes nothing.
use Rattle.std.specs.Prelude.{◌≡◌, refl, List, [], ◌∷◌, ◌++◌, ◌⊎◌, Bool, true, false, ℕ, zero, suc, ◌+◌, ◌≤◌, length}
use Rattle.std.proofs.Common.{sym, ap, ◌∙◌, inl, inr, arith}
use Rattle.exact.specs.Class.{pick, clash, and, is, only, left, right, is_right, and_of, or_of}
use Rattle.exact.specs.Out.{Out, ok, soft, bad, bind, fmap, Reader, Tamed, t_ok, shrinks, Firm}
use Rattle.exact.specs.Lang.{ret_r}
use Rattle.exact.specs.Answers.{map_fmap}
use Rattle.exact.specs.Comb.{many_r}
use Rattle.exact.specs.Block.{many_g, lead}
use Rattle.language.specs.Strings.{lowhex}
use Rattle.strings.specs.Bytes.{pair_r, pair_ll, further_r, further_ll, inside_r, pairs_r, digit_next, pairs_on, further_fails}
use Rattle.strings.specs.Turns.{many_turn, many_g_turn, many_g_stop}

abbrev pub space_next : List ℕ → Bool
space_next [] = false
space_next (b ∷ t) = is (only 32) b

abbrev pub settled : Out (List ℕ) → Out (List ℕ)
settled (ok v a t) = ok v a t
settled (soft p v a t) = pick (space_next t) (bad p) (ok v a t)
settled (bad p) = bad p

settled_fmap : (v : ℕ) (o : Out (List ℕ)) → settled (fmap (v ∷◌) o) ≡ fmap (v ∷◌) (settled o)
settled_fmap v (ok w a t) = refl
settled_fmap v (soft p w a t) = by (space_next t)
  where
    by : (x : Bool) → pick x (bad p) (ok (v ∷ w) a t) ≡ fmap (v ∷◌) (pick x (bad p) (ok w a t))
    by true = refl
    by false = refl
settled_fmap v (bad p) = refl

-- a firm reader of a byte or more, and then two readers that settle to the same on what is left
settled_bind : {at : ℕ} {s : List ℕ} (o : Out ℕ) (q g : ℕ → Reader (List ℕ)) → Firm o → Tamed 1 at s o
    → ((v a : ℕ) (t : List ℕ) → suc (length t) ≤ length s → q v a t ≡ settled (g v a t)) → bind o q ≡ settled (bind o g)
settled_bind (ok v a t) q g f (t_ok m) h = h v a t (omega (arith, shrinks m))
settled_bind (soft p v a t) q g f m h = absurd (never f)
  where
    never : Firm (soft p v a t) → ⊥
    never x = elim x [ ]
settled_bind (bad p) q g f m h = refl

class : (b : ℕ) (t : List ℕ) → pairs_on (b ∷ t) ≡ true → is (lowhex ++ only 32) b ≡ true
class b t e = by (or_of (is lowhex b) (and (is (only 32) b) (digit_next t)) e)
  where
    by : (is lowhex b ≡ true) ⊎ (and (is (only 32) b) (digit_next t) ≡ true) → is (lowhex ++ only 32) b ≡ true
    by (inl x) = left lowhex (only 32) b x
    by (inr x) = right lowhex (only 32) b (and_of (is (only 32) b) (digit_next t) x).0

many_settled : (n at : ℕ) (s : List ℕ) → length s ≤ n → many_r (is (lowhex ++ only 32)) further_r at s ≡ settled (many_g pairs_on (lead 1) further_r at s)
many_settled zero at [] l = refl
many_settled (suc n) at [] l = refl
many_settled zero at (b ∷ s) l = absurd (omega arith)
many_settled (suc n) at (b ∷ s) l = by (pairs_on (b ∷ s)) refl (λ a t k. many_settled n a t (omega arith))
  where
    off : (x y : Bool) → is lowhex b ≡ x → is (only 32) b ≡ y → pairs_on (b ∷ s) ≡ false
        → many_r (is (lowhex ++ only 32)) further_r at (b ∷ s) ≡ pick y (bad (at + lead 1 (b ∷ s))) (ok [] at (b ∷ s))
    off true y p q e = absurd (clash (rw p refl) e)
    off false true p q e =
        many_turn further_ll.exact.moves (is (lowhex ++ only 32)) at b s (right lowhex (only 32) b q)
        ∙ ap (λ o. bind o (λ v a t. fmap (v ∷◌) (many_r (is (lowhex ++ only 32)) further_r a t))) (further_fails at (b ∷ s) e)
    off false false p q e = rw (none (is (lowhex ++ only 32) b) refl) refl
      where
        none : (z : Bool) → is (lowhex ++ only 32) b ≡ z → z ≡ false
        none true f = absurd (clash (is_right lowhex (only 32) b p f) q)
        none false f = refl

    by : (x : Bool) → pairs_on (b ∷ s) ≡ x
        → ((a : ℕ) (t : List ℕ) → suc (length t) ≤ length (b ∷ s) → many_r (is (lowhex ++ only 32)) further_r a t ≡ settled (many_g pairs_on (lead 1) further_r a t))
        → many_r (is (lowhex ++ only 32)) further_r at (b ∷ s) ≡ settled (many_g pairs_on (lead 1) further_r at (b ∷ s))
    by true e ih =
        many_turn further_ll.exact.moves (is (lowhex ++ only 32)) at b s (class b s e)
        ∙ (settled_bind
        (further_r at (b ∷ s))
        (λ v a t. fmap (v ∷◌) (many_r (is (lowhex ++ only 32)) further_r a t))
        (λ v a t. fmap (v ∷◌) (many_g pairs_on (lead 1) further_r a t))
        (further_ll.firm at (b ∷ s))
        (further_ll.exact.moves.tame at (b ∷ s))
        (λ v a t k. ap (fmap (v ∷◌)) (ih a t k) ∙ sym (settled_fmap v (many_g pairs_on (lead 1) further_r a t)))
        ∙ ap settled (sym (many_g_turn further_ll.exact.moves pairs_on (lead 1) refl at (b ∷ s) e)))
    by false e ih =
        off (is lowhex b) (is (only 32) b) refl refl e ∙ ap settled (sym (many_g_stop pairs_on (lead 1) further_r at (b ∷ s) e))

pub inside_settled : (at : ℕ) (s : List ℕ) → inside_r at s ≡ settled (pairs_r at s)
unfolding inside_r pairs_r
inside_settled at s =
    settled_bind
    (pair_r at s)
    (λ p a t. bind (many_r (is (lowhex ++ only 32)) further_r a t) (λ ps. ret_r (p ∷ ps)))
    (λ p a t. bind (many_g pairs_on (lead 1) further_r a t) (λ ps. ret_r (p ∷ ps)))
    (pair_ll.firm at s)
    (pair_ll.exact.moves.tame at s)
    (λ p a t k.
    map_fmap (p ∷◌) (many_r (is (lowhex ++ only 32)) further_r a t)
    ∙ (ap (fmap (p ∷◌)) (many_settled (length t) a t (omega arith))
    ∙ (sym (settled_fmap p (many_g pairs_on (lead 1) further_r a t)) ∙ ap settled (sym (map_fmap (p ∷◌) (many_g pairs_on (lead 1) further_r a t))))))
