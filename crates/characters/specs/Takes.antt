-- A BYTE TAKEN by `Reading::take`: what its caller learns. Assumes nothing.
use Rattle.std.specs.Prelude.{◌≡◌, refl, List, Bool, true, false, ℕ, ◌+◌, ◌<◌, length, drop}
use Rattle.std.proofs.Common.{sym, arith}
use Rattle.exact.specs.Class.{clash, is, only, only_eq, only_yes}
use Rattle.exact.specs.Lang.{byte_r}
use Rattle.exact.specs.Place.{peek, peek_in, byte_is, byte_not}
use Rattle.characters.specs.Reads.{Skip}
use Rattle.std.specs.declared.result.Result.TheVariants.{Err, Ok}
use Rattle.characters.specs.Reads.{Skips, ends_of, bad_of}

module _ (doc : List ℕ) (at b : ℕ) (small : b < 256) (r : Skip) (h : Skips doc at (byte_r (is (only b)) at (drop at doc)) r) where
  here : (x : Bool) → is (only b) (peek doc at) ≡ x → (n : ℕ) → r ≡ Ok n → (n ≡ at + 1) × (b ≡ peek doc at)
  here true e n z =
      let k = only_eq b (peek doc at) e in
      let f = byte_is doc at b (peek doc at) small refl k in
      let g = (ends_of doc at (byte_r (is (only b)) at (drop at doc)) r n z h).is in
      (cc, sym k)
  here false e n z =
      let f = byte_not doc at b (peek doc at) small refl (λ k. clash (only_yes b (peek doc at) k) e) in
      let g = (ends_of doc at (byte_r (is (only b)) at (drop at doc)) r n z h).is in
      let y : ◌≡◌ {A = ℕ} 0 1 = cc in
      absurd (omega arith)

  away : (x : Bool) → is (only b) (peek doc at) ≡ x → (p : ℕ) → r ≡ Err p → (p ≡ at) × (peek doc at ≡ b → ⊥)
  away true e p z =
      let f = byte_is doc at b (peek doc at) small refl (only_eq b (peek doc at) e) in
      let g = bad_of doc at (byte_r (is (only b)) at (drop at doc)) r p z h in
      let y : ◌≡◌ {A = ℕ} 0 1 = cc in
      absurd (omega arith)
  away false e p z =
      let n : peek doc at ≡ b → ⊥ = λ k. clash (only_yes b (peek doc at) k) e in
      let f = byte_not doc at b (peek doc at) small refl n in
      let g = bad_of doc at (byte_r (is (only b)) at (drop at doc)) r p z h in
      (cc, n)

  pub take_next : (n : ℕ) → r ≡ Ok n → n ≡ at + 1
  take_next n z = (here (is (only b) (peek doc at)) refl n z).0

  pub take_byte : (n : ℕ) → r ≡ Ok n → b ≡ peek doc at
  take_byte n z = (here (is (only b) (peek doc at)) refl n z).1

  pub take_place : (p : ℕ) → r ≡ Err p → p ≡ at
  take_place p z = (away (is (only b) (peek doc at)) refl p z).0

  pub take_other : (p : ℕ) → r ≡ Err p → peek doc at ≡ b → ⊥
  take_other p z = (away (is (only b) (peek doc at)) refl p z).1

  pub take_inside : (n : ℕ) → r ≡ Ok n → at < length doc
  take_inside n z = peek_in doc at b (take_byte n z) small
