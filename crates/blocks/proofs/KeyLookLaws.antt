-- THE LOOK for a key with its colon, and for a dash with its space: they decide how objects and items begin. Assumes nothing.
use Rattle.std.specs.Prelude.{◌≡◌, refl, List, [], ◌∷◌, Bool, true, false, ℕ, suc, ◌+◌, ◌≤◌, ◌<◌, length}
use Rattle.std.proofs.Common.{ap, ◌∙◌, arith}
use Rattle.language.specs.Kind.{KEY}
use Rattle.language.specs.Tree.{Tree, leaf, unescaped}
use Rattle.language.specs.Strings.{keybyte}
use Rattle.exact.specs.Class.{pick, clash, Class, and, or, is, and_of, only, only_eq, apart_no}
use Rattle.exact.specs.Out.{Out, Reader, bind, reach, count, behind, Tame, Firm, reach_from, f_ok, f_bad, ok, soft, bad}
use Rattle.exact.specs.Lang.{ret_r, byte_r}
use Rattle.exact.specs.Comb.{seq_r, many_bytes, map_r}
use Rattle.exact.specs.Ll.{here_r, word_r}
use Rattle.exact.specs.More.{ll_shuts}
use Rattle.strings.specs.Spans.{spanned_r}
use Rattle.strings.specs.Quoted.{quoted_r}
use Rattle.strings.specs.Keys.{bare_r, name_r, key_r, key_s}
use Rattle.strings.proofs.KeysLaws.{key_ll}
use Rattle.blocktext.specs.Joined.{quotes}
use Rattle.blocks.specs.Look.{Test, Stop, Decided, Ordered}
use Rattle.blocks.specs.KeyLook.{dash, dash_look, dash_stop, dashed, dashed_is, key_bare, key_look, key_stop, keyed, keys}

-- a dash and a space are no key, and a dash may begin one
pub dash_key : Ordered dash_look dash_stop key_look key_stop
dash_key = record { low = low; alone = λ at s e. (behind_dash at s e).0; level = λ at s e. (behind_dash at s e).1 }
  where
    low : (at : ℕ) (s : List ℕ) → at + dash s ≤ reach (key_r at s)
    low at [] = omega (arith, reach_from (key_ll.exact.moves.tame at []))
    low at (b ∷ s) = by (is (only 45) b) refl
      where
        by : (x : Bool) → is (only 45) b ≡ x → at + pick x 1 0 ≤ reach (key_r at (b ∷ s))
        by false x = omega (arith, reach_from (key_ll.exact.moves.tame at (b ∷ s)))
        by true x =
            let k : is keybyte b ≡ true = rw (only_eq 45 b x) refl in
            let m = key_bare at b s k in
            let n : keys (b ∷ s) ≡ suc (keys s) = ap (λ (c : Bool). pick c (suc (keys s)) 0) k in
            rw m.1 (omega arith)

    behind_dash : (at : ℕ) (s : List ℕ) → dashed s ≡ true → (keyed (key_r at s) ≡ false) × (reach (key_r at s) ≤ at + dash s)
    behind_dash at s e = let u = dashed_is s e in rw (u.1, (key_bare at 45 (32 ∷ u.0) refl).1) (refl, omega arith)
