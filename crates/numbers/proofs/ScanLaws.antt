-- Laws of the parts of a number, as the scanner's returns say them. Assumes nothing.
use mathlib.Core.Path.{◌≡◌, refl, sym, ap, ◌∙◌}
use mathlib.Core.List.{List, [], ◌∷◌, ◌++◌}
use mathlib.Core.Bool.{Bool, true, false}
use Prim.Native.Nat.{ℕ, zero, suc, ◌+◌, ◌≤◌, ◌<◌}
use native.Mathlib.Numerals.{add-one}
use native.Mathlib.Omega.{arith}
use lib.ListN.{length, drop, length-drop}
use lib.Seq.{slice, slice_empty}
use Rattle.exact.specs.Class.{pick, and, and_of, clash, none, is, only, only_yes}
use Rattle.exact.specs.Out.{Out, bind, ok, soft, bad}
use Rattle.exact.specs.Lang.{ret_r}
use Rattle.exact.specs.Comb.{seq_r, option_r}
use Rattle.exact.specs.Block.{lead}
use Rattle.exact.specs.Lines.{reached, raised, bind_reached, raised_ok}
use Rattle.exact.specs.Place.{peek, byte_peek, byte_is, alt_peek, There, there, byte_there, none_there}
use Rattle.language.specs.Kind.{FLOAT}
use Rattle.language.specs.Scalars.{digit}
use Rattle.numbers.specs.declared.digits.Stretch.{Stretch}
use Rattle.numbers.specs.Contract.{Scanned}
use Rattle.std.specs.declared.result.Result.TheVariants.{Err}
use Rattle.numbers.specs.Same.{found}
use Rattle.numbers.specs.Digits.{digits_r}
use Rattle.numbers.specs.Plain.{sign, one_r, exponent_r}
use Rattle.numbers.specs.Places.{tail_end, squeezed, far_at, digits_read, digits_none}
use Rattle.numbers.specs.Numbers.{after_sign, float, exponent_at}
use Rattle.numbers.specs.Contract.{Grouped, Passed, Tight, a_float, Powered, no_power, power}
use Rattle.numbers.proofs.DigitLaws.{tail_some}
use Rattle.numbers.proofs.SqueezeLaws.{squeeze_join, squeeze_byte, tight_join, tight_none, tight_byte, tight_group}

-- HOW FAR: answers that are raised
module _ {X : Type 0} where
  pub raised_bad : (f p : ℕ) → f ≤ p → raised {X = X} f (bad p) ≡ bad p
  raised_bad zero p h = refl
  raised_bad (suc f) p h = ap bad (omega arith)

  pub raised_low : (f f' : ℕ) (v : X) (a : ℕ) (t : List ℕ) → f ≤ f' → raised f (reached f' v a t) ≡ reached f' v a t
  raised_low zero f' v a t h = refl
  raised_low (suc f) zero v a t h = absurd (omega arith)
  raised_low (suc f) (suc f') v a t h = ap (λ n. soft n v a t) (omega arith)

  pub raised_twice : (f f' : ℕ) (o : Out X) → f ≤ f' → raised f (raised f' o) ≡ raised f' o
  raised_twice zero f' o h = refl
  raised_twice (suc f) zero o h = absurd (omega arith)
  raised_twice (suc f) (suc f') (ok v a t) h = ap (λ n. soft n v a t) (omega arith)
  raised_twice (suc f) (suc f') (soft q v a t) h = ap (λ n. soft n v a t) (omega arith)
  raised_twice (suc f) (suc f') (bad q) h = ap bad (omega arith)

pub far_le : (spaced : Bool) (doc : List ℕ) (at : ℕ) → far_at spaced doc at ≤ at + 1
unfolding far_at
far_le false doc at = omega arith
far_le true doc at = let h = go (drop at doc) in omega arith
  where
    by : (x : Bool) → pick x 1 0 ≤ 1
    by true = omega arith
    by false = omega arith

    go : (s : List ℕ) → lead 1 s ≤ 1
    go [] = omega arith
    go (b ∷ s) = by (is (only 32) b)

pub far_up : (spaced : Bool) (doc : List ℕ) (a e : ℕ) → a < e → far_at spaced doc a ≤ far_at spaced doc e
unfolding far_at
far_up false doc a e h = omega arith
far_up true doc a e h = let k : far_at true doc a ≤ a + 1 = far_le true doc a in omega arith

-- ONE BYTE, read
pub one_at : (doc : List ℕ) (at a : ℕ) → a < 256 → a ≡ peek doc at → one_r (only a) at (drop at doc) ≡ ok (a ∷ []) (at + 1) (drop (at + 1) doc)
one_at doc at a l h = ap (λ o. bind o (λ b. ret_r (b ∷ []))) (byte_is doc at a a l h refl)

-- DIGITS, read
module _ (spaced : Bool) (doc : List ℕ) (d : ℕ) (g : Stretch) (x : Grouped spaced doc d g) where
  pub group_digit : (g.end.at ≡ d → ⊥) → is digit (peek doc d) ≡ true
  group_digit n = go (is digit (peek doc d)) refl
    where
      go : (y : Bool) → is digit (peek doc d) ≡ y → is digit (peek doc d) ≡ true
      go true z = z
      go false z = absurd (n (x.end ∙ rw z refl))

  pub group_over : g.end.at ≡ d → is digit (peek doc d) ≡ false
  group_over n = go (is digit (peek doc d)) refl
    where
      go : (y : Bool) → is digit (peek doc d) ≡ y → is digit (peek doc d) ≡ false
      go true z =
          let e : g.end.at ≡ tail_end spaced doc d = x.end ∙ rw z refl in
          absurd (omega (arith, tail_some spaced doc d z))
      go false z = z

  pub group_read : (g.end.at ≡ d → ⊥) → digits_r spaced d (drop d doc) ≡ reached (far_at spaced doc g.end.at) (squeezed (slice d g.end.at doc)) g.end.at (drop g.end.at doc)
  group_read n = digits_read spaced doc d g.end.at x.end (group_digit n)

  pub group_bad : g.end.at ≡ d → digits_r spaced d (drop d doc) ≡ bad d
  group_bad n = digits_none spaced doc d (group_over n)

-- A SIGN
abbrev sign_text : List ℕ → ℕ → List ℕ
sign_text doc at = pick (is sign (peek doc at)) (peek doc at ∷ []) []

module _ (doc : List ℕ) (at : ℕ) where
  sign_no_space : is sign (peek doc at) ≡ true → peek doc at ≡ 32 → ⊥
  sign_no_space e z = none sign (only 32) (peek doc at) refl e (only_yes 32 (peek doc at) z)

  sign_in : is sign (peek doc at) ≡ true → at < length doc
  sign_in e = go (there doc at)
    where
      go : There doc at → at < length doc
      go (byte_there h) = omega (arith, ap length h, length-drop at doc)
      go (none_there h k) = absurd (clash e (ap (is sign) k))

  sign_read : option_r sign (one_r sign) at (drop at doc) ≡ ok (sign_text doc at) (after_sign doc at) (drop (after_sign doc at) doc)
  sign_read = alt_peek doc at sign refl (one_r sign) (ret_r []) ∙ go (is sign (peek doc at)) refl
    where
      go : (y : Bool) → is sign (peek doc at) ≡ y
          → pick y (one_r sign at (drop at doc)) (ok [] at (drop at doc)) ≡ ok (pick y (peek doc at ∷ []) []) (pick y (at + 1) at) (drop (pick y (at + 1) at) doc)
      go true z = ap (λ o. bind o (λ b. ret_r (b ∷ []))) (byte_peek doc at sign refl) ∙ rw (z, add-one) refl
      go false z = refl

  sign_text_lem : squeezed (slice at (after_sign doc at) doc) ≡ sign_text doc at
  unfolding squeezed
  sign_text_lem = go (is sign (peek doc at)) refl
    where
      go : (y : Bool) → is sign (peek doc at) ≡ y → squeezed (slice at (pick y (at + 1) at) doc) ≡ pick y (peek doc at ∷ []) []
      go true z = squeeze_byte doc at (peek doc at) refl (sign_no_space z) (sign_in z)
      go false z = rw (slice_empty at doc) refl

  sign_tight : Tight doc at (after_sign doc at)
  sign_tight = go (is sign (peek doc at)) refl
    where
      go : (y : Bool) → is sign (peek doc at) ≡ y → Tight doc at (pick y (at + 1) at)
      go true z = tight_byte doc at (peek doc at) refl (sign_no_space z) (sign_in z)
      go false z = tight_none doc at

  pub sign_ahead : at ≤ after_sign doc at
  sign_ahead = go (is sign (peek doc at))
    where
      go : (y : Bool) → at ≤ pick y (at + 1) at
      go true = omega arith
      go false = omega arith

  pub sign_inside : at ≤ length doc → after_sign doc at ≤ length doc
  sign_inside l = go (is sign (peek doc at)) refl
    where
      go : (y : Bool) → is sign (peek doc at) ≡ y → pick y (at + 1) at ≤ length doc
      go true z = let i = sign_in z in omega arith
      go false z = l

-- AN EXPONENT: its letter was taken, and n is the place behind it
module _ (spaced : Bool) (doc : List ℕ) (at n d : ℕ) (dense : Bool) (l : Passed doc at 101 n) (a : d ≡ after_sign doc n) where
  letter : 101 ≡ peek doc at
  letter = l.stands.byte

  past_sign : d ≡ after_sign doc (at + 1)
  past_sign = a ∙ ap (after_sign doc) l.next

  letter_in : at < length doc
  letter_in = l.stands.inside

  pub letter_inside : at + 1 ≤ length doc
  letter_inside = let i = letter_in in omega arith

  sign_after : (at + 1 ≤ d) × (d ≤ length doc)
  sign_after = let e = past_sign in let a = sign_ahead doc (at + 1) in let b = sign_inside doc (at + 1) letter_inside in (omega arith, omega arith)

  exponent_by : exponent_r spaced at (drop at doc) ≡ bind (digits_r spaced d (drop d doc)) (λ ds. ret_r (101 ∷ (sign_text doc (at + 1) ++ ds)))
  unfolding exponent_r
  exponent_by =
      ap (λ o. bind o (λ x. seq_r (option_r sign (one_r sign)) λ s. seq_r (digits_r spaced) λ ds. ret_r (x ++ s ++ ds))) (one_at doc at 101 (omega arith) letter)
      ∙ (ap (λ o. bind o (λ s. seq_r (digits_r spaced) λ ds. ret_r (101 ∷ (s ++ ds)))) (sign_read doc (at + 1)) ∙ rw past_sign refl)

  letter_no_space : ◌≡◌ {A = ℕ} 101 32 → ⊥
  letter_no_space e = omega arith

  exponent_text : (e : ℕ) → d ≤ e → e ≤ length doc → 101 ∷ (sign_text doc (at + 1) ++ squeezed (slice d e doc)) ≡ squeezed (slice at e doc)
  exponent_text e j i =
      let a = sign_after in
      let t : sign_text doc (at + 1) ≡ squeezed (slice (at + 1) d doc) = sym (rw past_sign (sign_text_lem doc (at + 1))) in
      ap (λ u. 101 ∷ (u ++ squeezed (slice d e doc))) t
      ∙ (ap (101 ∷◌) (squeeze_join doc (at + 1) d e a.0 j)
      ∙ (ap (λ u. u ++ squeezed (slice (at + 1) e doc)) (sym (squeeze_byte doc at 101 letter letter_no_space letter_in)) ∙ squeeze_join doc at (at + 1) e (omega arith) (omega arith)))

  exponent_tight : (e : ℕ) → d ≤ e → Tight doc d e → Tight doc at e
  exponent_tight e j t =
      let a = sign_after in
      tight_join doc at (at + 1) e (omega arith) (omega arith) (tight_byte doc at 101 letter letter_no_space letter_in)
      (tight_join doc (at + 1) d e a.0 j (rw past_sign (sign_tight doc (at + 1))) t)

  module _ (g : Stretch) (x : Grouped spaced doc d g) where
    pub power_not : g.end.at ≡ d → Powered spaced doc at dense (Err d)
    unfolding exponent_at
    power_not z =
        let a = sign_after in
        no_power d (omega arith) a.1
        (λ m w.
        ap (λ o. bind o (float m w)) (exponent_by ∙ ap (λ o. bind o (λ ds. ret_r (101 ∷ (sign_text doc (at + 1) ++ ds)))) (group_bad spaced doc d g x z)))

    pub power_read : (b : Bool) (s : Scanned) → (g.end.at ≡ d → ⊥) → b ≡ and dense g.dense → s ≡ a_float g.end.at g.end.at b → Powered spaced doc at dense s
    unfolding exponent_at
    power_read b s n z q =
        let a = sign_after in
        let e = g.end.at in
        let f = far_at spaced doc e in
        rw q
        (power e b (omega (arith, x.ahead)) x.inside
        (λ m w.
        ap
        (λ o. bind o (float m w))
        (exponent_by
        ∙ (ap (λ o. bind o (λ ds. ret_r (101 ∷ (sign_text doc (at + 1) ++ ds)))) (group_read spaced doc d g x n)
        ∙ (bind_reached f (squeezed (slice d e doc)) e (drop e doc) (λ ds. ret_r (101 ∷ (sign_text doc (at + 1) ++ ds)))
        ∙ (raised_ok f (101 ∷ (sign_text doc (at + 1) ++ squeezed (slice d e doc))) e (drop e doc)
        ∙ ap (λ u. reached f u e (drop e doc)) (exponent_text e x.ahead x.inside)))))
        ∙ (bind_reached f (squeezed (slice at e doc)) e (drop e doc) (float m w) ∙ raised_ok f (found FLOAT (m ++ (w ++ squeezed (slice at e doc)))) e (drop e doc)))
        (λ t.
        let u = and_of dense g.dense (sym z ∙ t) in
        (u.0, exponent_tight e x.ahead (tight_group doc spaced d g x u.1))))
