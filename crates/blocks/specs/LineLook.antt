-- A LINE BESIDE AN ARRAY OR OBJECT that may begin at the same place: where a key's colon or a dash's space follows, the line is refused no later. Assumes nothing.
use Rattle.std.specs.Prelude.{◌≡◌, refl, List, [], ◌∷◌, ◌++◌, Bool, true, false, ℕ, suc, ◌+◌, ◌≤◌, length, take}
use Rattle.std.proofs.Common.{sym, ap, subst, arith}
use Rattle.std.proofs.Math.Decide.{dec_le}
use Rattle.language.specs.Kind.{KEY}
use Rattle.language.specs.Tree.{Tree, leaf, Decoded}
use Rattle.language.specs.Strings.{keybyte}
use Rattle.language.specs.Inline.{LineValue}
use Rattle.exact.specs.Class.{Starts, pick, clash, ◌to◌, Class, or, is, none, inside, only, only_eq, apart_no}
use Rattle.exact.specs.Out.{Out, Reader, bind, reach, margin, Tamed, Tame, Firm, shrinks, placed, reach_from, f_ok, f_bad, bad, t_ok, t_soft, t_bad}
use Rattle.exact.specs.Lang.{Lang, None, Exact, ret_r}
use Rattle.exact.specs.Comb.{Seq}
use Rattle.strings.specs.Quoted.{quoted_r}
use Rattle.strings.proofs.QuotedLaws.{quoted_ll}
use Rattle.blocktext.specs.Joined.{quotes}
use Rattle.blocks.specs.First.{Opens, refuted}
use Rattle.blocks.specs.Through.{Through, stay, on}
use Rattle.blocks.specs.Plain.{plainbyte, value_plain}
use Rattle.exact.specs.Sound.{Read, read_ok, read_soft, read_bad, read, early_bad, word_moves}
use Rattle.blocks.specs.Look.{Stands, refused, past, Place, aside, same, Beside}
use Rattle.blocks.specs.KeyLook.{key_first, keys, unkeyed, colon, keyed, key_stop, dashed, dashed_is, block_look, key_bare, key_quoted, key_none, key_end}

-- what a line value ends before: LF or a space
abbrev pub enders : Class
enders = (10 to 10) ∷ (32 to 32) ∷ []

-- A KEY'S BYTES AND A COLON begin no keyword and no number
data KeyColon : List ℕ → Type 0 where
  at_colon : {m : List ℕ} → KeyColon (58 ∷ m)
  at_key : {b : ℕ} {s : List ℕ} → is keybyte b ≡ true → KeyColon s → KeyColon (b ∷ s)

no_colon : {s t : List ℕ} → KeyColon s → Through plainbyte s t → Starts (is enders) t → ⊥
no_colon at_colon stay z = clash z refl
no_colon at_colon (on e x) z = clash e refl
no_colon (at_key {b = b} k c) stay z = none enders keybyte b refl z k
no_colon (at_key k c) (on e x) z = no_colon c x z

key_colon : (s more : List ℕ) → colon (unkeyed s) ≡ true → KeyColon (take (suc (keys s)) s ++ more)
key_colon [] more e = absurd (clash e refl)
key_colon (b ∷ s) more e = by (is keybyte b) refl e (key_colon s more)
  where
    by : (x : Bool) → is keybyte b ≡ x → colon (pick x (unkeyed s) (b ∷ s)) ≡ true → (colon (unkeyed s) ≡ true → KeyColon (take (suc (keys s)) s ++ more))
        → KeyColon (take (suc (pick x (suc (keys s)) 0)) (b ∷ s) ++ more)
    by true x e ih = at_key x (ih e)
    by false x e ih = subst (λ (c : ℕ). KeyColon (c ∷ more)) (sym (only_eq 58 b e)) at_colon

-- a keyword or number does not end among a key's bytes
key_covered : {s m : List ℕ} → Through plainbyte s m → Starts (is enders) m → keys s + length m ≤ length s
key_covered (stay {s = []}) z = absurd z
key_covered (stay {s = b ∷ s}) z = by (is keybyte b) refl
  where
    by : (x : Bool) → is keybyte b ≡ x → pick x (suc (keys s)) 0 + length (b ∷ s) ≤ length (b ∷ s)
    by true x = absurd (none enders keybyte b refl z x)
    by false x = omega arith
key_covered (on {b = b} {s = s} {t = m} e x) z = by (is keybyte b) (key_covered x z)
  where
    by : (x : Bool) → keys s + length m ≤ length s → pick x (suc (keys s)) 0 + length m ≤ length (b ∷ s)
    by true h = omega arith
    by false h = omega arith

-- A LINE that is a value and something that begins with LF or space; `base` reads it
module _ {T : Tree → Lang Tree} {d : ℕ} {base : Reader Tree} {tR : Tree → Reader Tree} (opens : (v : Tree) → Opens enders (T v)) (tail : (v : Tree) → Exact d (T v) None (tR v))
    (line : Exact 1 (Seq (LineValue 0) T) None base) (not_dash : (at : ℕ) (t : List ℕ) → base at (45 ∷ 32 ∷ t) ≡ bad (suc at)) where
  line_dead : (at : ℕ) (s : List ℕ) (v : Tree) (a : ℕ) (t : List ℕ) → Starts (is keybyte) s → KeyColon s → Seq (LineValue 0) T at s v a t → ⊥
  line_dead at s v a t k c x =
      no_colon c (value_plain at s x.value x.middle x.rest k 0 x.first) ((opens x.value).opens x.middle x.rest v a t x.second)

  line_covers : (at : ℕ) (s : List ℕ) (v : Tree) (a : ℕ) (t : List ℕ) → Starts (is keybyte) s → Seq (LineValue 0) T at s v a t → keys s + length t ≤ length s
  line_covers at s v a t k x =
      let h = key_covered (value_plain at s x.value x.middle x.rest k 0 x.first) ((opens x.value).opens x.middle x.rest v a t x.second) in
      let m = word_moves (tail x.value) x.middle x.rest v a t x.second in
      omega (arith, shrinks m)

  line_past : (at b : ℕ) (s : List ℕ) → is keybyte b ≡ true → {o : Out Tree} → Tamed 1 at (b ∷ s) o → Read (Seq (LineValue 0) T) at (b ∷ s) o → Stands false (at + keys (b ∷ s)) o
  line_past at b s k (t_ok {v = v} {a = a} {t = t} m) (read_ok x) = past refl (omega (arith, line_covers at (b ∷ s) v a t k x, placed m))
  line_past at b s k (t_soft {v = v} {a = a} {t = t} p m l) (read_soft x) = past refl (omega (arith, line_covers at (b ∷ s) v a t k x, placed m))
  line_past at b s k (t_bad p l m) (read_bad _ z) = by (dec_le p (at + keys (b ∷ s)))
    where
      by : Dec (p ≤ at + keys (b ∷ s)) → Stands {X = Tree} false (at + keys (b ∷ s)) (bad p)
      by (yes h) = refused p refl h
      by (no h) = past refl (omega arith)

  pub bare_stands : (at b : ℕ) (s : List ℕ) → is keybyte b ≡ true → Stands (block_look at (b ∷ s)) (key_stop at (b ∷ s)) (base at (b ∷ s))
  bare_stands at b s k =
      let n : keys (b ∷ s) ≡ suc (keys s) = ap (λ (c : Bool). pick c (suc (keys s)) 0) k in
      rw (key_bare at b s k).1 (by n (dashed (b ∷ s)) refl (colon (unkeyed (b ∷ s))) refl)
    where
      by : keys (b ∷ s) ≡ suc (keys s) → (x : Bool) → dashed (b ∷ s) ≡ x → (y : Bool) → colon (unkeyed (b ∷ s)) ≡ y → Stands (or x y) (at + keys (b ∷ s)) (base at (b ∷ s))
      by n true x y z =
          let u = dashed_is (b ∷ s) x in
          refused (suc at) (subst (λ (l : List ℕ). base at l ≡ bad (suc at)) (sym u.1) (not_dash at u.0)) (omega arith)
      by n false x true z =
          let e = early_bad line (keys (b ∷ s)) at (b ∷ s) (λ more v a t w. line_dead at _ v a t k (key_colon (b ∷ s) more z) w) in
          refused e.0 e.1 e.2
      by n false x false z = line_past at b s k (line.moves.tame at (b ∷ s)) (read line at (b ∷ s))

-- A QUOTED STRING, and then what no colon begins
pub quoted_stands : {e : ℕ} (q : Decoded → Reader Tree) → ((v : Decoded) → Tame e (q v)) → ((v : Decoded) (a : ℕ) (t : List ℕ) → q v a (58 ∷ t) ≡ bad a)
    → (at b : ℕ) (s : List ℕ) → is quotes b ≡ true → Stands (block_look at (b ∷ s)) (key_stop at (b ∷ s)) (bind (quoted_r at (b ∷ s)) q)
quoted_stands q m shut at b s e =
    rw (apart_no quotes (only 45) b refl e, key_quoted at b s e) (go (quoted_ll.firm at (b ∷ s)))
  where
    behind : (v : Decoded) (a : ℕ) (t : List ℕ) → Stands (colon t) a (q v a t)
    behind v a [] = past refl (reach_from ((m v).tame a []))
    behind v a (c ∷ t) = by (is (only 58) c) refl
      where
        by : (x : Bool) → is (only 58) c ≡ x → Stands x a (q v a (c ∷ t))
        by true x = refused a (subst (λ (n : ℕ). q v a (n ∷ t) ≡ bad a) (sym (only_eq 58 c x)) (shut v a t)) (omega arith)
        by false x = past refl (reach_from ((m v).tame a (c ∷ t)))

    go : {o : Out Decoded} → Firm o → Stands (keyed (bind o (λ v a. ret_r (leaf KEY at a v) a))) (reach (bind o (λ v a. ret_r (leaf KEY at a v) a))) (bind o q)
    go (f_ok {v = v} {a = a} {t = t}) = behind v a t
    go (f_bad {p = p}) = refused p refl (omega arith)

-- BESIDE: what is to be known of the line where a key may begin
pub beside : {base r : Reader Tree} → Tame 0 base → Tame 0 r → ((at b : ℕ) (s : List ℕ) → is key_first b ≡ true → r at (b ∷ s) ≡ base at (b ∷ s))
    → ((at b : ℕ) (s : List ℕ) → is key_first b ≡ true → Stands (block_look at (b ∷ s)) (key_stop at (b ∷ s)) (base at (b ∷ s)))
    → Beside block_look key_stop base r
beside {base} {r} m₀ m alike stands = record { tame₀ = m₀; tame = m; place = go }
  where
    dry : (b : ℕ) (s : List ℕ) → is key_first b ≡ true → margin (b ∷ s) ≡ 0
    dry b s e = ap (λ (x : Bool). pick x (suc (margin s)) 0) (apart_no key_first (only 32) b refl e)

    go : (at : ℕ) (s : List ℕ) → Place (block_look at s) (key_stop at s) at s (base at s) (r at s)
    go at [] = aside (ap keyed (key_end at)) (ap reach (key_end at))
    go at (b ∷ s) = by (is key_first b) refl
      where
        by : (x : Bool) → is key_first b ≡ x → Place (block_look at (b ∷ s)) (key_stop at (b ∷ s)) at (b ∷ s) (base at (b ∷ s)) (r at (b ∷ s))
        by true x = same (dry b s x) (alike at b s x) (stands at b s x)
        by false x = rw (refuted (is (only 45) b) (λ y. clash (inside (only 45) key_first b refl y) x), key_none at b s x) (aside refl refl)
