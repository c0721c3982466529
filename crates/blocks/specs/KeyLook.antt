-- THE LOOK for a key with its colon, and for a dash with its space: they decide how objects and items begin. Assumes nothing.
use Rattle.std.specs.Prelude.{◌≡◌, refl, List, [], ◌∷◌, Bool, true, false, ℕ, suc, ◌+◌, ◌≤◌, ◌<◌, length}
use Rattle.std.proofs.Common.{ap, ◌∙◌, arith}
use Rattle.language.specs.Kind.{KEY}
use Rattle.language.specs.Tree.{Tree, leaf, unescaped}
use Rattle.language.specs.Strings.{keybyte}
use Rattle.exact.specs.Class.{pick, clash, Class, and, or, is, and_of, only, only_eq, apart_no}
use Rattle.exact.specs.Out.{Out, Reader, bind, reach, count, behind, Tame, Firm, reach_from, f_ok, f_bad, ok, soft, bad}
use Rattle.exact.specs.Lang.{ret_r, byte_r}
use Rattle.exact.specs.Comb.{seq_r, many_bytes, map_r}
use Rattle.exact.specs.Ll.{here_r, word_r}
use Rattle.exact.specs.More.{ll_shuts}
use Rattle.strings.specs.Spans.{spanned_r}
use Rattle.strings.specs.Quoted.{quoted_r}
use Rattle.strings.specs.Keys.{bare_r, name_r, key_r, key_s}
use Rattle.strings.proofs.KeysLaws.{key_ll}
use Rattle.blocktext.specs.Joined.{quotes}
use Rattle.blocks.specs.Look.{Test, Stop, Decided, Ordered}

-- the bytes of a bare key that a text begins with, and what is behind them
abbrev pub keys : List ℕ → ℕ
keys s = count (is keybyte) s

abbrev pub unkeyed : List ℕ → List ℕ
unkeyed s = behind (is keybyte) s

abbrev pub colon : List ℕ → Bool
colon [] = false
colon (b ∷ t) = is (only 58) b

-- what a key begins with
abbrev pub key_first : Class
key_first = key_s.first

-- a key was read, and a colon is behind it
abbrev pub keyed : {X : Type 0} → Out X → Bool
keyed (ok v a t) = colon t
keyed (soft p v a t) = colon t
keyed (bad p) = false

abbrev pub key_look : Test
key_look at s = keyed (key_r at s)

abbrev pub key_stop : Stop
key_stop at s = reach (key_r at s)

-- a dash and a space
abbrev pub space : List ℕ → Bool
space [] = false
space (b ∷ t) = is (only 32) b

abbrev pub dashed : List ℕ → Bool
dashed [] = false
dashed (b ∷ s) = and (is (only 45) b) (space s)

abbrev pub dash : List ℕ → ℕ
dash [] = 0
dash (b ∷ s) = pick (is (only 45) b) 1 0

abbrev pub dash_look : Test
dash_look at s = dashed s

abbrev pub dash_stop : Stop
dash_stop at s = at + dash s

-- KEYS: a bare key is all its bytes
pub key_bare : (at b : ℕ) (s : List ℕ) → is keybyte b ≡ true → (ky : Tree) × (key_r at (b ∷ s) ≡ ok ky (at + keys (b ∷ s)) (unkeyed (b ∷ s)))
unfolding key_r name_r spanned_r bare_r
key_bare at b s e =
    let m = many_bytes (is keybyte) (length s) (suc at) s (omega arith) in
    let n : bare_r at (b ∷ s) ≡ ok (b ∷ m.0) (at + keys (b ∷ s)) (unkeyed (b ∷ s)) =
    rw e (ap (λ o. bind o (λ cs. ret_r (b ∷ cs))) m.1 ∙ ap (λ (n : ℕ). ok (b ∷ m.0) n (unkeyed s)) (omega arith)) in
    (leaf KEY at (at + keys (b ∷ s)) (unescaped (b ∷ m.0)), ap (λ (c : Bool). bind (pick c (map_r unescaped bare_r at (b ∷ s)) (quoted_r at (b ∷ s))) (λ v a. ret_r (leaf KEY at a v) a)) e ∙ ap (λ o. bind (bind o (λ v. ret_r (unescaped v))) (λ v a. ret_r (leaf KEY at a v) a)) n)

-- a quoted key
pub key_quoted : (at b : ℕ) (s : List ℕ) → is quotes b ≡ true → key_r at (b ∷ s) ≡ bind (quoted_r at (b ∷ s)) (λ v a. ret_r (leaf KEY at a v) a)
unfolding key_r name_r spanned_r
key_quoted at b s e =
    ap
    (λ (c : Bool). bind (pick c (map_r unescaped bare_r at (b ∷ s)) (quoted_r at (b ∷ s))) (λ v a. ret_r (leaf KEY at a v) a))
    (apart_no quotes keybyte b refl e)

-- no key
pub key_none : (at b : ℕ) (s : List ℕ) → is key_first b ≡ false → key_r at (b ∷ s) ≡ bad at
key_none at b s e = (ll_shuts refl key_ll).not at b s e

pub key_end : (at : ℕ) → key_r at [] ≡ bad at
key_end at = (ll_shuts refl key_ll).at_none at

-- WHAT BEGINS WITH A KEY AND A COLON
pub key_decided : {X : Type 0} {e : ℕ} {q : Tree → Reader X} → ((ky : Tree) → Tame e (q ky)) → Decided key_look key_stop (seq_r key_r λ ky. seq_r (byte_r (is (only 58))) λ _. q ky)
key_decided {X} {q = q} m = record { goes = λ at s. goes (key_ll.firm at s); shut = λ at s. shut (key_ll.firm at s) }
  where
    goes : {o : Out Tree} → Firm o → keyed o ≡ true → reach o < reach (bind o (λ ky. seq_r (byte_r (is (only 58))) λ _. q ky))
    goes (f_ok {v = v} {a = a} {t = []}) e = absurd (clash e refl)
    goes (f_ok {v = v} {a = a} {t = b ∷ t}) e = rw e (omega (arith, reach_from ((m v).tame (suc a) t)))
    goes (f_bad {p = p}) e = absurd (clash e refl)

    shut : {o : Out Tree} → Firm o → keyed o ≡ false → bind o (λ ky. seq_r (byte_r (is (only 58))) λ _. q ky) ≡ bad (reach o)
    shut (f_ok {v = v} {a = a} {t = []}) e = refl
    shut (f_ok {v = v} {a = a} {t = b ∷ t}) e = rw e refl
    shut (f_bad {p = p}) e = refl

-- WHAT BEGINS WITH A DASH AND A SPACE
pub dashed_is : (s : List ℕ) → dashed s ≡ true → (t : List ℕ) × (s ≡ 45 ∷ 32 ∷ t)
dashed_is [] e = absurd (clash e refl)
dashed_is (b ∷ []) e = absurd (clash (and_of (is (only 45) b) false e).1 refl)
dashed_is (b ∷ c ∷ t) e =
    let u = and_of (is (only 45) b) (is (only 32) c) e in
    (t, rw (only_eq 45 b u.0, only_eq 32 c u.1))

pub dash_decided : {X : Type 0} {e : ℕ} {q : ℕ → Reader X} → ((d : ℕ) → Tame e (q d)) → Decided dash_look dash_stop (seq_r here_r λ d. seq_r (word_r (45 ∷ 32 ∷ [])) λ _. q d)
dash_decided {X} {q = q} m = record { goes = goes; shut = shut }
  where
    goes : (at : ℕ) (s : List ℕ) → dashed s ≡ true → at + dash s < reach (bind (word_r (45 ∷ 32 ∷ []) at s) (λ _. q at))
    goes at s e =
        let u = dashed_is s e in
        rw u.1 (omega (arith, reach_from ((m at).tame (suc (suc at)) u.0)))

    shut : (at : ℕ) (s : List ℕ) → dashed s ≡ false → bind (word_r (45 ∷ 32 ∷ []) at s) (λ _. q at) ≡ bad (at + dash s)
    shut at [] e = ap bad (omega arith)
    shut at (b ∷ s) e = by (is (only 45) b) s e
      where
        by : (x : Bool) (s : List ℕ) → and x (space s) ≡ false
            → bind (bind (pick x (ok b (suc at) s) (bad at)) (λ _. word_r (32 ∷ []))) (λ _. q at) ≡ bad (at + pick x 1 0)
        by false s e = ap bad (omega arith)
        by true [] e = ap bad (omega arith)
        by true (c ∷ t) e = rw e (ap bad (omega arith))

-- BOTH: an array or an object begins here
abbrev pub block_look : Test
block_look at s = or (dashed s) (keyed (key_r at s))
