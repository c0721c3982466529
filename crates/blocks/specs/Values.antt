-- LINE VALUES WHERE A KEY MAY BEGIN TOO: how their reader goes there, whatever the allowance.
use Rattle.std.specs.Prelude.{◌≡◌, refl, List, ◌∷◌, Bool, true, false, ℕ, zero, suc}
use Rattle.std.proofs.Common.{sym, ap, ◌∙◌}
use Rattle.language.specs.Kind.{STRING}
use Rattle.language.specs.Tree.{leaf}
use Rattle.exact.specs.Class.{pick, is, none, is_right}
use Rattle.exact.specs.Out.{bind, bad}
use Rattle.exact.specs.Lang.{ret_r}
use Rattle.numbers.specs.Digits.{digits_r}
use Rattle.numbers.specs.Plain.{plain_first, unsigned_r, signed_r, body_r, plain_r}
use Rattle.strings.specs.Spans.{spanned_r}
use Rattle.strings.specs.Quoted.{quoted_r, string_r}
use Rattle.strings.specs.Bytes.{inline_bytes_r}
use Rattle.inline.specs.Lists.{scalar_first, openings, value_first}
use Rattle.inline.specs.Values.{quotes_r, scalar_r, container_r, value_r}
use Rattle.inline.specs.Deeper.{value_shuts}
use Rattle.blocktext.specs.Joined.{quotes}
use Rattle.blocks.specs.First.{refuted}
use Rattle.blocks.specs.KeyLook.{key_first}

-- the allowance is not asked
pub value_same : (k at b : ℕ) (s : List ℕ) → is key_first b ≡ true → value_r true k at (b ∷ s) ≡ value_r true 0 at (b ∷ s)
unfolding value_r
value_same zero at b s e = refl
value_same (suc k) at b s e = by (is scalar_first b) refl
  where
    by : (x : Bool) → is scalar_first b ≡ x → pick (is scalar_first b) (scalar_r true at (b ∷ s)) (container_r (value_r false k) at (b ∷ s)) ≡ scalar_r true at (b ∷ s)
    by true x = ap (λ (c : Bool). pick c (scalar_r true at (b ∷ s)) (container_r (value_r false k) at (b ∷ s))) x
    by false x =
        let f : is value_first b ≡ false = refuted (is value_first b) (λ y. none key_first openings b refl e (is_right scalar_first openings b x y)) in
        (value_shuts true (suc k)).not at b s f ∙ sym ((value_shuts true 0).not at b s f)

-- a dash and a space are refused at the space
pub value_dash : (at : ℕ) (t : List ℕ) → value_r true 0 at (45 ∷ 32 ∷ t) ≡ bad (suc at)
unfolding value_r scalar_r plain_r body_r signed_r unsigned_r digits_r
value_dash at t = refl

-- a quote begins a string
pub value_quoted : (at b : ℕ) (s : List ℕ) → is quotes b ≡ true → value_r true 0 at (b ∷ s) ≡ bind (quoted_r at (b ∷ s)) (λ v a. ret_r (leaf STRING at a v) a)
unfolding value_r scalar_r quotes_r string_r spanned_r
value_quoted at b s e =
    ap (λ (c : Bool). pick c (plain_r true at (b ∷ s)) (pick (is quotes b) (string_r at (b ∷ s)) (inline_bytes_r at (b ∷ s)))) (refuted (is plain_first b) (λ x. none quotes plain_first b refl e x))
    ∙ ap (λ (c : Bool). pick c (string_r at (b ∷ s)) (inline_bytes_r at (b ∷ s))) e
