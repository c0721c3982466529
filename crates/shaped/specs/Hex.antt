-- HEX PAIRS give bytes below 256. Assumes nothing.
use Rattle.std.specs.Prelude.{◌≡◌, refl, List, [], ◌∷◌, Bool, true, false, ℕ, ◌-◌, ◌≤◌, ◌<◌, leb}
use Rattle.std.proofs.Common.{arith, leb-true}
use Rattle.notation.specs.Class.{pick, is}
use Rattle.language.specs.Strings.{hexval, lowhex, Pair, Pairs, InlineBytes}
use Rattle.spans.specs.Words.{Values, alt_words, ret_values, skip}
use Rattle.spans.specs.Ascii.{Each}
use Rattle.shaped.specs.Shaped.{Octets, octets_none, octets_more, Shaped, shaped_leaf, is_bytes}
use Rattle.shaped.specs.Ranges.{up_to}
use Rattle.shaped.specs.Given.{bind_values, map_values, byte_values, star_values}

hexval_low : (b : ℕ) → is lowhex b ≡ true → hexval b ≤ 15
hexval_low b e = by (leb b 57) refl
  where
    top : b ≤ 102
    top = up_to lowhex 102 b refl e

    more : (c : Bool) → leb b 70 ≡ c → pick c (b - 55) (b - 87) ≤ 15
    more true x = let h = leb-true b 70 x in omega arith
    more false x = omega (arith, top)

    by : (c : Bool) → leb b 57 ≡ c → pick c (b - 48) (pick (leb b 70) (b - 55) (b - 87)) ≤ 15
    by true x = let h = leb-true b 57 x in omega arith
    by false x = more (leb b 70) refl

pair_octet : Values Pair (λ b. b < 256)
pair_octet = bind_values (byte_values hexval_low) (λ h k. bind_values (byte_values hexval_low) (λ l m. ret_values (omega arith)))

octets_of : (bs : List ℕ) → Each (λ b. b < 256) bs → Octets bs
octets_of [] h = octets_none
octets_of (b ∷ bs) h = octets_more h.0 (octets_of bs h.1)

pub pairs_octets : Values Pairs Octets
pairs_octets = bind_values pair_octet (λ p h. map_values (star_values (alt_words pair_octet (skip (λ s. pair_octet)))) (λ ps hs. octets_more h (octets_of ps hs)))

pub inline_bytes_shaped : (k : ℕ) → Values InlineBytes (Shaped k)
inline_bytes_shaped k =
    skip
    (λ a. bind_values
    {P = λ s. Octets s.bytes}
    (skip (λ o. bind_values (alt_words pairs_octets (ret_values octets_none)) (λ bs h. skip (λ c. ret_values h))))
    (λ s h. skip (λ e. ret_values (shaped_leaf (is_bytes h)))))
