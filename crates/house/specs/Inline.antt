-- INLINE VALUES: what is written on one line is a value, like the tree that was written. Assumes nothing.
use Rattle.std.specs.Prelude.{◌≡◌, refl, List, [], ◌∷◌, ◌++◌, Bool, true, false, ℕ, suc, ◌+◌, length}
use Rattle.std.proofs.Common.{sym, ap, ◌∙◌, append_assoc}
use Rattle.notation.specs.Class.{pick}
use Rattle.notation.specs.Lang.{Lang, ◌>>◌, Star, Word}
use Rattle.exact.specs.Class.{only_is}
use Rattle.language.specs.Kind.{KEY}
use Rattle.language.specs.Tree.{Decoded, Tree, leaf, Forest, none, more, forest, count, fields}
use Rattle.language.specs.Strings.{Key}
use Rattle.language.specs.Inline.{Listed, InlinePair, Value}
use Rattle.language.specs.House.{is_key, is_none, inline, inlines}
use Rattle.shaped.specs.Shaped.{Scripted, Shaped, shaped_leaf, shaped_array, shaped_object, Elements, elements_none, elements_more, Pairs, pairs_none, pairs_more}
use Rattle.house.specs.Spells.{Spells, spelt_as, respelt, one_reads, two_reads, star_none, star_more, ret_reads, seq_reads, last_reads, here_then, byte_then, word_then}
use Rattle.house.specs.Same.{Like, Same, leaf_like, same_node, same_none, same_more, LikeField, like_field, same_field}
use Rattle.house.specs.Leaves.{scalar_spells, key_written, value_scalar, no_key}

-- children behind another one: nothing, or a comma, a space and they
abbrev further : Forest → List ℕ
further ts = pick (is_none ts) [] (44 ∷ 32 ∷ []) ++ inlines ts

-- these children are a list up to its closing byte, and the rest of a list behind a child
record Lists {X : Type 0} (close : ℕ) (A : Lang X) (ts : Forest) (P : List X → Type 0) : Type 0 where
  listed : (at : ℕ) → Spells (Listed close A) at (inlines ts ++ close ∷ []) P
  starred : (at : ℕ) → Spells (Star (Word (44 ∷ 32 ∷ []) >> A)) at (further ts) P

module _ {X : Type 0} {close : ℕ} {A : Lang X} {P : List X → Type 0} where
  lists_none : P [] → Lists close A none P
  unfolding inlines
  lists_none p =
      record {
        listed = λ at. record { value = []; reads = one_reads (byte_then (only_is close) ret_reads); good = p };
        starred = λ at. record { value = []; reads = star_none; good = p };
      }

  -- one more, whose bytes are w
  lists_more : {Q : X → Type 0} {R : List X → Type 0} {t : Tree} {us ts : Forest} (w : List ℕ) → inlines (more t us) ≡ w ++ further ts
      → ((at : ℕ) → Spells A at w Q) → Lists close A ts R → ((v : X) (vs : List X) → Q v → R vs → P (v ∷ vs)) → Lists close A (more t us) P
  lists_more {ts = ts} w e f l h =
      record {
        listed = λ at.
            let x = f at in
            let y = l.starred (at + length w) in
            spelt_as
            (sym (append_assoc w (further ts) (close ∷ [])) ∙ ap (◌++ close ∷ []) (sym e))
            (record {
              value = x.value ∷ y.value;
              reads = two_reads (seq_reads x.reads (seq_reads y.reads (byte_then (only_is close) ret_reads)));
              good = h x.value y.value x.good y.good;
            });
        starred = λ at.
            let x = f (at + 2) in
            let y = l.starred (at + length (44 ∷ 32 ∷ w)) in
            record {
              value = x.value ∷ y.value;
              reads = respelt (ap (λ (s : List ℕ). 44 ∷ 32 ∷ s) (sym e)) (star_more (word_then (44 ∷ 32 ∷ []) x.reads) y.reads);
              good = h x.value y.value x.good y.good;
            };
      }

-- a value before others; a key and its value
before : (t : Tree) (ts : Forest) → is_key t ≡ false → inlines (more t ts) ≡ inline t ++ further ts
unfolding inlines
before t ts e = rw e (append_assoc (inline t) (pick (is_none ts) [] (44 ∷ 32 ∷ [])) (inlines ts))

pair_before : (k v : Tree) (ts : Forest) → is_key k ≡ true → is_key v ≡ false → inlines (more k (more v ts)) ≡ inline k ++ 58 ∷ 32 ∷ inline v ++ further ts
unfolding inlines
pair_before k v ts e h = rw e (ap (inline k ++ 58 ∷ 32 ∷ [] ++◌) (before v ts h) ∙ simp append_assoc)

module _ {A : Lang Tree} {k v : Tree} where
  pair_spells : ((at : ℕ) → Spells Key at (inline k) (Like k)) → ((at : ℕ) → Spells A at (inline v) (Like v)) → (at : ℕ)
      → Spells (InlinePair A) at (inline k ++ 58 ∷ 32 ∷ inline v) (LikeField k v)
  pair_spells f g at =
      let x = f at in
      let y = g (at + length (inline k) + 2) in
      record { value = _; reads = seq_reads x.reads (word_then (58 ∷ 32 ∷ []) (last_reads y.reads ret_reads)); good = like_field x.good y.good }

pub key_like : {a e : ℕ} {s : Decoded} → Scripted s.bytes → (at : ℕ) → Spells Key at (inline (leaf KEY a e s)) (Like (leaf KEY a e s))
unfolding inline
key_like x at = let r = key_written at x in record { value = r.value; reads = r.reads; good = leaf_like r.good }

mutual
  unfolding inline

  pub value_spells : {k : ℕ} {t : Tree} (spaced : Bool) (at : ℕ) → Shaped k t → Spells (Value spaced k) at (inline t) (Like t)
  value_spells spaced at (shaped_leaf {k = k} x) =
      let r = scalar_spells spaced at x in
      value_scalar spaced k (record { value = r.value; reads = r.reads; good = leaf_like r.good })
  value_spells spaced at (shaped_array x) =
      let r = (elements_spell x).listed (suc at) in
      record { value = _; reads = two_reads (one_reads (here_then (byte_then (only_is 91) (last_reads r.reads (here_then ret_reads))))); good = same_node r.good }
  value_spells spaced at (shaped_object x) =
      let r = (pairs_spell x).listed (suc at) in
      record { value = _; reads = two_reads (two_reads (here_then (byte_then (only_is 123) (last_reads r.reads (here_then ret_reads))))); good = same_node r.good }

  elements_spell : {k n : ℕ} {ts : Forest} → Elements k n ts → Lists 93 (Value false k) ts (λ vs. Same n ts (count vs) (forest vs))
  elements_spell elements_none = lists_none same_none
  elements_spell (elements_more {t = t} {ts = ts} x xs) =
      lists_more (inline t) (before t ts (no_key x)) (λ at. value_spells false at x) (elements_spell xs) (λ v vs a s. same_more a s)

  pairs_spell : {k n : ℕ} {ts : Forest} → Pairs k n ts → Lists 125 (InlinePair (Value false k)) ts (λ fs. Same n ts (count fs) (forest (fields fs)))
  pairs_spell pairs_none = lists_none same_none
  pairs_spell (pairs_more {a = a} {e = e} {s = s} {v = v} {ts = ts} y x xs) =
      lists_more
      (inline (leaf KEY a e s) ++ 58 ∷ 32 ∷ inline v)
      (pair_before (leaf KEY a e s) v ts refl (no_key x))
      (pair_spells (key_like y) (λ at. value_spells false at x))
      (pairs_spell xs)
      same_field
