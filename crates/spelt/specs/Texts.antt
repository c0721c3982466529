-- THE TEXT OF THE KEY AT A PLACE, as it is read there. Assumes nothing.
use Rattle.std.specs.Prelude.{◌≡◌, List, [], ℕ, drop}
use Rattle.std.proofs.Math.Path.{ap}
use Rattle.language.specs.Tree.{Tree, text_of}
use Rattle.exact.specs.Out.{Out, ok, soft, bad}
use Rattle.strings.specs.Keys.{key_r}
use Rattle.named.specs.Lie.{KeyAt}

-- the text of a tree that is read, and the place behind it
abbrev pub text_in : Out Tree → List ℕ
text_in (ok t m s) = text_of t
text_in (soft p t m s) = text_of t
text_in (bad p) = []

abbrev pub end_in : Out Tree → ℕ
end_in (ok t m s) = m
end_in (soft p t m s) = m
end_in (bad p) = p

-- .. of the key at a place
unfoldable pub spelled : List ℕ → ℕ → List ℕ
spelled doc a = text_in (key_r a (drop a doc))

unfoldable pub ends : List ℕ → ℕ → ℕ
ends doc a = end_in (key_r a (drop a doc))

module _ (doc : List ℕ) (t : Tree) (a m : ℕ) (u : List ℕ) (e : key_r a (drop a doc) ≡ ok t m u) where
  pub spelled_is : spelled doc a ≡ text_of t
  unfolding spelled
  spelled_is = ap text_in e

  pub ends_is : ends doc a ≡ m
  unfolding ends
  ends_is = ap end_in e

module _ (doc : List ℕ) (a m : ℕ) (s : List ℕ) (k : KeyAt doc a s m) where
  pub key_text : spelled doc a ≡ s
  unfolding text_of
  key_text = spelled_is doc _ a m _ k.is

  pub key_end : ends doc a ≡ m
  key_end = ends_is doc _ a m _ k.is

  pub key_own : KeyAt doc a (spelled doc a) (ends doc a)
  key_own = rw (key_text, key_end) k
