-- A TEXT IS SHOWN CHARACTER BY CHARACTER: each where its first byte stands, and its value is that of its bytes. Assumes nothing.
use Rattle.std.specs.Prelude.{◌≡◌, List, ◌∷◌, ◌++◌, false, ℕ, ◌+◌, ◌*◌, ◌/◌, ◌%◌, ◌≤◌, ◌<◌}
use Rattle.std.proofs.Common.{ap, ◌∙◌, arith, le-leb}
use Rattle.std.proofs.Math.Decide.{dec_le}
use Rattle.std.proofs.lemmas.Bool.{lt-leb}
use Rattle.notation.specs.Class.{is}
use Rattle.language.specs.Characters.{utf8}
use Rattle.language.specs.Lines.{tail}
use Rattle.language.specs.House.{shown, value_at, shown_text}
use Rattle.utf8.specs.Spelling.{utf8_one, utf8_two, utf8_three, utf8_four}
use Rattle.utf8.specs.OverNumbers.{within_yes}
use Rattle.exact.specs.Class.{or_left}

-- a byte that begins a character, and one that goes on with it
lead_shown : (b v : ℕ) (s : List ℕ) → is tail b ≡ false → value_at b s ≡ v → shown_text (b ∷ s) ≡ shown v ++ shown_text s
unfolding shown_text
lead_shown b v s e h = rw (e, h)

tail_shown : (b : ℕ) (s : List ℕ) → 128 ≤ b → b ≤ 191 → shown_text (b ∷ s) ≡ shown_text s
unfolding shown_text
tail_shown b s l h = rw (or_left false (within_yes 128 191 b l h))

no_tail : (b : ℕ) → 192 ≤ b → is tail b ≡ false
no_tail b h = rw (lt-leb b 191 (omega arith), le-leb 128 b (omega arith))

module _ (v : ℕ) (s : List ℕ) where
  shown_one : v ≤ 127 → shown_text (utf8 v ++ s) ≡ shown v ++ shown_text s
  shown_one h = rw (utf8_one v h) (lead_shown v v s (rw (lt-leb 128 v (omega arith))) (rw (le-leb v 127 h)))

  shown_two : 127 < v → v ≤ 2047 → shown_text (utf8 v ++ s) ≡ shown v ++ shown_text s
  shown_two l h =
      let b = 192 + v / 64 in
      rw (utf8_two v l h)
      (lead_shown b v ((128 + v % 64) ∷ s) (no_tail b (omega arith)) (rw (lt-leb b 127 (omega arith), le-leb b 223 (omega arith)) (omega arith))
      ∙ ap (shown v ++◌) (tail_shown (128 + v % 64) s (omega arith) (omega arith)))

  shown_three : 2047 < v → v ≤ 65535 → shown_text (utf8 v ++ s) ≡ shown v ++ shown_text s
  shown_three l h =
      let b = 224 + v / 4096 in
      let s₂ = (128 + v % 64) ∷ s in
      let s₁ = (128 + v / 64 % 64) ∷ s₂ in
      rw (utf8_three v l h)
      (lead_shown b v s₁ (no_tail b (omega arith)) (rw (lt-leb b 127 (omega arith), lt-leb b 223 (omega arith), le-leb b 239 (omega arith)) (omega arith))
      ∙ ap (shown v ++◌) (tail_shown (128 + v / 64 % 64) s₂ (omega arith) (omega arith) ∙ tail_shown (128 + v % 64) s (omega arith) (omega arith)))

  shown_four : 65535 < v → v ≤ 1114111 → shown_text (utf8 v ++ s) ≡ shown v ++ shown_text s
  shown_four l h =
      let b = 240 + v / 262144 in
      let s₃ = (128 + v % 64) ∷ s in
      let s₂ = (128 + v / 64 % 64) ∷ s₃ in
      let s₁ = (128 + v / 4096 % 64) ∷ s₂ in
      let p : 64 * (v / 262144) + v / 4096 % 64 ≡ v / 4096 = omega arith in
      let q : 64 * (v / 4096) + v / 64 % 64 ≡ v / 64 = omega arith in
      rw (utf8_four v l)
      (lead_shown b v s₁ (no_tail b (omega arith)) (rw (lt-leb b 127 (omega arith), lt-leb b 223 (omega arith), lt-leb b 239 (omega arith)) (omega arith))
      ∙ ap
      (shown v ++◌)
      (tail_shown (128 + v / 4096 % 64) s₂ (omega arith) (omega arith)
      ∙ (tail_shown (128 + v / 64 % 64) s₃ (omega arith) (omega arith) ∙ tail_shown (128 + v % 64) s (omega arith) (omega arith))))

  pub shown_first : v ≤ 1114111 → shown_text (utf8 v ++ s) ≡ shown v ++ shown_text s
  shown_first h = by (dec_le v 127) (dec_le v 2047) (dec_le v 65535)
    where
      by : Dec (v ≤ 127) → Dec (v ≤ 2047) → Dec (v ≤ 65535) → shown_text (utf8 v ++ s) ≡ shown v ++ shown_text s
      by (yes x) y z = shown_one x
      by (no x) (yes y) z = shown_two (omega arith) y
      by (no x) (no y) (yes z) = shown_three (omega arith) z
      by (no x) (no y) (no z) = shown_four (omega arith) h
