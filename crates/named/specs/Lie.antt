-- KEYS IN THE DOCUMENT: each is read at its place, and the next one stands behind it. Assumes nothing.
use Rattle.std.specs.Prelude.{◌≡◌, List, [], ◌∷◌, ◌++◌, ℕ, ◌≤◌, ◌<◌, length, drop}
use Rattle.std.proofs.Common.{arith}
use Rattle.language.specs.Kind.{KEY}
use Rattle.language.specs.Tree.{leaf}
use Rattle.exact.specs.Out.{ok}
use Rattle.strings.specs.Keys.{key_r}
use Rattle.named.specs.Flat.{Named, named}

-- a key of that text stands from b up to m, however it is escaped
pub record KeyAt (doc : List ℕ) (b : ℕ) (s : List ℕ) (m : ℕ) : Type 0 where
  pub escapes : ℕ
  pub is : key_r b (drop b doc) ≡ ok (leaf KEY b m (record { bytes = s; escapes = escapes })) m (drop m doc)
  pub ahead : b < m
  pub inside : m ≤ length doc

-- keys one behind another, from a up to e
pub data Keys (doc : List ℕ) : ℕ → List Named → ℕ → Type 0 where
  keys_none : {a e : ℕ} → a ≤ e → Keys doc a [] e
  keys_more : {a b m e q : ℕ} {s : List ℕ} {ns : List Named} → a ≤ b → KeyAt doc b s m → Keys doc m ns e → Keys doc a (named q b s ∷ ns) e

pub keys_le : {doc : List ℕ} {a e : ℕ} {ns : List Named} → Keys doc a ns e → a ≤ e
keys_le (keys_none h) = h
keys_le (keys_more h k x) = let y = keys_le x in omega (arith, k.ahead)

pub keys_from : {doc : List ℕ} {a b e : ℕ} {ns : List Named} → a ≤ b → Keys doc b ns e → Keys doc a ns e
keys_from {a = a} {e = e} h (keys_none k) = keys_none {a = a} {e = e} (omega arith)
keys_from {a = a} h (keys_more {b = b} k x y) = let z : a ≤ b = omega arith in keys_more z x y

pub keys_to : {doc : List ℕ} {a e f : ℕ} {ns : List Named} → e ≤ f → Keys doc a ns e → Keys doc a ns f
keys_to {a = a} {f = f} h (keys_none k) = keys_none {a = a} {e = f} (omega arith)
keys_to h (keys_more k x y) = keys_more k x (keys_to h y)

pub keys_append : {doc : List ℕ} {a m e : ℕ} (ms : List Named) {ns : List Named} → Keys doc a ms m → Keys doc m ns e → Keys doc a (ms ++ ns) e
keys_append _ (keys_none h) y = keys_from h y
keys_append (named q b s ∷ ms) (keys_more h x z) y = keys_more h x (keys_append ms z y)
