-- HOW MANY KEYS stand below a tree, at any depth. Assumes nothing.
use Rattle.std.specs.Prelude.{◌≡◌, refl, ℕ, ◌+◌, eqb}
use Rattle.std.proofs.Common.{arith, ne_eqb}
use Rattle.notation.specs.Class.{pick}
use Rattle.language.specs.Kind.{KEY}
use Rattle.language.specs.Tree.{Tree, leaf, node, Forest, none, more}
use Rattle.spans.specs.Formed.{Formed, IsKey, is_a_key, formed_word, formed_text, formed_array, formed_object}

-- 1 for a key, else 0
unfoldable pub is_key : Tree → ℕ
is_key (leaf k a e s) = pick (eqb k KEY) 1 0
is_key (node k a e c ts) = 0

unfoldable mutual
  pub keys_in : Tree → ℕ
  keys_in (leaf k a e s) = 0
  keys_in (node k a e c ts) = keys_among ts

  pub keys_among : Forest → ℕ
  keys_among none = 0
  keys_among (more t ts) = is_key t + keys_in t + keys_among ts

-- a value is no key, and a key has none below it
pub value_none : {t : Tree} → Formed t → is_key t ≡ 0
unfolding is_key
value_none (formed_word {k = k} h l i) = rw (ne_eqb k KEY (λ e. omega arith)) refl
value_none (formed_text {k = k} h l) = rw (ne_eqb k KEY (λ e. omega arith)) refl
value_none (formed_array x) = refl
value_none (formed_object x) = refl

pub key_one : {t : Tree} → IsKey t → is_key t + keys_in t ≡ 1
unfolding is_key keys_in
key_one is_a_key = refl
