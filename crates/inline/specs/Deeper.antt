-- MORE ALLOWANCE, MORE VALUES; and one more is enough: a reader of values refuses what begins with no byte of theirs, and where one more allowance makes a difference it goes beyond the refusal.
use Rattle.std.proofs.Math.Path.{refl}
use Rattle.std.specs.Prelude.{[], ◌∷◌, Bool, false, ℕ, zero, suc, ◌<◌}
use Rattle.std.proofs.Common.{arith}
use Rattle.notation.specs.Lang.{Alt}
use Rattle.language.specs.Tree.{Tree, field, array_tree, object_tree}
use Rattle.language.specs.Inline.{Listed, InlineArray, InlinePair, InlineObject, Scalar, Value}
use Rattle.exact.specs.Class.{is, only}
use Rattle.exact.specs.Out.{Reader}
use Rattle.exact.specs.Lang.{Lang}
use Rattle.exact.specs.Ll.{ret_ll, seq_ll, here_ll, word_ll, byte₁}
use Rattle.exact.specs.Grow.{Sub, sub_refl, sub_one, seq_sub, alt_sub, star_sub}
use Rattle.exact.specs.More.{OneMore, steady, calm, seq_more, alt_more, star_more, Goes, byte_goes, seq_goes, here_goes, alt_goes, Shuts, ll_shuts, new_after}
use Rattle.numbers.specs.Opening.{plain_shuts, shuts_inside, alt_shuts}
use Rattle.strings.specs.Bytes.{inline_bytes_ll}
use Rattle.strings.proofs.KeysLaws.{key_ll}
use Rattle.strings.proofs.QuotedLaws.{string_ll}
use Rattle.inline.specs.Lists.{scalar_first, openings, value_first, listed_r, inline_array_r, inline_pair_r, inline_object_r}
use Rattle.inline.specs.Values.{quotes_r, scalar_r, container_r, value_r, scalar_exact, container_ll, value_ll}

-- MORE ALLOWANCE, MORE VALUES
listed_sub : {X : Type 0} {A A' : Lang X} (close : ℕ) → Sub A A' → Sub (Listed close A) (Listed close A')
listed_sub close e = alt_sub (sub_refl _) (seq_sub e λ v. seq_sub (star_sub (seq_sub (sub_refl _) λ _. e)) λ vs. sub_refl _)

inline_array_sub : {A A' : Lang Tree} → Sub A A' → Sub (InlineArray A) (InlineArray A')
inline_array_sub e = seq_sub (sub_refl _) λ a. seq_sub (sub_refl _) λ _. seq_sub (listed_sub 93 e) λ vs. sub_refl _

inline_pair_sub : {A A' : Lang Tree} → Sub A A' → Sub (InlinePair A) (InlinePair A')
inline_pair_sub e = seq_sub (sub_refl _) λ k. seq_sub (sub_refl _) λ _. seq_sub e λ v. sub_refl _

inline_object_sub : {A A' : Lang Tree} → Sub A A' → Sub (InlineObject A) (InlineObject A')
inline_object_sub e = seq_sub (sub_refl _) λ a. seq_sub (sub_refl _) λ _. seq_sub (listed_sub 125 (inline_pair_sub e)) λ fs. sub_refl _

pub value_sub : (spaced : Bool) (k : ℕ) → Sub (Value spaced k) (Value spaced (suc k))
value_sub spaced zero = sub_one (Alt (InlineArray (Value false zero)) (InlineObject (Value false zero))) (sub_refl (Scalar spaced))
value_sub spaced (suc k) = alt_sub (sub_refl (Scalar spaced)) (alt_sub (inline_array_sub (value_sub false k)) (inline_object_sub (value_sub false k)))

-- REFUSED AT ONCE is what begins with no byte of a value
pub scalar_shuts : (spaced : Bool) → Shuts scalar_first (scalar_r spaced)
unfolding scalar_r quotes_r
scalar_shuts spaced = alt_shuts (plain_shuts spaced) (alt_shuts (ll_shuts refl string_ll) (ll_shuts refl inline_bytes_ll))

pub value_shuts : (spaced : Bool) (k : ℕ) → Shuts value_first (value_r spaced k)
unfolding value_r
value_shuts spaced zero = shuts_inside value_first refl (scalar_shuts spaced)
value_shuts spaced (suc k) = alt_shuts (scalar_shuts spaced) (ll_shuts refl (container_ll (value_ll k)))

-- ONE MORE, OR ANY
module _ {X : Type 0} {r₀ r₁ r₂ : Reader X} (e : OneMore r₀ r₁ r₂) where
  listed_more : (close : ℕ) → OneMore (listed_r close r₀) (listed_r close r₁) (listed_r close r₂)
  unfolding listed_r
  listed_more close =
      alt_more
      (is (only close))
      (calm (seq_ll refl (byte₁ close) λ _. ret_ll []))
      (seq_more e λ v. seq_more (star_more (seq_more (calm (word_ll (44 ∷ 32 ∷ []))) λ _. e) (is (only 44))) λ vs. calm (seq_ll refl (byte₁ close) λ _. ret_ll (v ∷ vs)))

module _ {r₀ r₁ r₂ : Reader Tree} (e : OneMore r₀ r₁ r₂) where
  inline_array_more : OneMore (inline_array_r r₀) (inline_array_r r₁) (inline_array_r r₂)
  unfolding inline_array_r
  inline_array_more = seq_more (calm here_ll) λ a. seq_more (calm (byte₁ 91)) λ _. seq_more (listed_more e 93) λ vs. calm (seq_ll refl here_ll λ e. ret_ll (array_tree a e vs))

  inline_pair_more : OneMore (inline_pair_r r₀) (inline_pair_r r₁) (inline_pair_r r₂)
  unfolding inline_pair_r
  inline_pair_more = seq_more (calm key_ll) λ k. seq_more (calm (word_ll (58 ∷ 32 ∷ []))) λ _. seq_more e λ v. calm (ret_ll (field k v))

  inline_object_more : OneMore (inline_object_r r₀) (inline_object_r r₁) (inline_object_r r₂)
  unfolding inline_object_r
  inline_object_more =
      seq_more (calm here_ll) λ a.
      seq_more (calm (byte₁ 123)) λ _. seq_more (listed_more inline_pair_more 125) λ fs. calm (seq_ll refl here_ll λ e. ret_ll (object_tree a e fs))

  container_more : OneMore (container_r r₀) (container_r r₁) (container_r r₂)
  unfolding container_r
  container_more = alt_more (is (only 91)) inline_array_more inline_object_more

  container_goes : Goes openings (container_r r₀)
  unfolding container_r inline_array_r inline_object_r
  container_goes =
      alt_goes
      (here_goes λ a. seq_goes (λ _. (seq_more (listed_more e 93) (λ vs. calm (seq_ll refl here_ll λ e. ret_ll (array_tree a e vs)))).tame₀) (byte_goes (only 91)))
      (here_goes λ a. seq_goes (λ _. (seq_more (listed_more inline_pair_more 125) (λ fs. calm (seq_ll refl here_ll λ e. ret_ll (object_tree a e fs)))).tame₀) (byte_goes (only 123)))

pub value_more : (spaced : Bool) (k j : ℕ) → k < j → OneMore (value_r spaced k) (value_r spaced (suc k)) (value_r spaced j)
unfolding value_r
value_more spaced k zero l = absurd (omega arith)
value_more spaced zero (suc j) l =
    new_after
    {c = openings}
    refl
    (steady (scalar_exact spaced).moves)
    (container_more (calm (value_ll zero))).tame₀
    (container_more (calm (value_ll j))).tame₀
    (container_goes (calm (value_ll zero)))
    (scalar_shuts spaced)
    (ll_shuts refl (container_ll (value_ll zero)))
    (ll_shuts refl (container_ll (value_ll j)))
value_more spaced (suc k) (suc j) l = alt_more (is scalar_first) (steady (scalar_exact spaced).moves) (container_more (value_more false k j (omega arith)))
