-- READERS THAT GIVE NO KEY, and the reader of one: what their answers note. Assumes nothing.
use Rattle.std.specs.Prelude.{◌≡◌, refl, List, [], ◌∷◌, ℕ, ◌≤◌, ◌<◌, drop}
use Rattle.std.proofs.Common.{ap, subst, ◌∙◌, arith}
use Rattle.language.specs.Kind.{KEY}
use Rattle.language.specs.Tree.{Decoded, Tree, leaf, forest}
use Rattle.exact.specs.Out.{Out, Reader, bind, ok, soft, bad, Tamed, t_ok, Moves, forward, rest_of, Firm}
use Rattle.exact.specs.Lines.{reached}
use Rattle.strings.specs.Spans.{spanned_r}
use Rattle.strings.specs.Keys.{name_r, key_r}
use Rattle.strings.proofs.KeysLaws.{key_ll}
use Rattle.notes.specs.Flat.{flat, flats, flats_one}
use Rattle.notes.specs.Handed.{Handed, took_none, took_more}
use Rattle.notes.specs.Lie.{KeyAt, keys_none, keys_more}
use Rattle.notes.specs.Notes.{Gives, gives_none, Kept, kept_none, Notes, one, notes_known}
pub use Rattle.named.specs.Every.{Every, Always, every_ok, every_alt, every_bind, every_with, every_reached}

-- ---- a tree with no key in it

pub record Bare (t : Tree) : Type 0 where
  pub none : (r p : ℕ) → flat r p t ≡ []

pub spanned_bare : (kind : ℕ) (r : Reader Decoded) (at : ℕ) (s : List ℕ) → ((a e : ℕ) (w : Decoded) → Bare (leaf kind a e w)) → Always Bare (spanned_r kind r at s)
unfolding spanned_r
spanned_bare kind r at s h = every_bind (r at s) _ (λ w e t. every_ok (h at e w))

module _ {doc : List ℕ} {at row parent : ℕ} {o : Out Tree} {S : List ℕ} where
  pub notes_bare : Always Bare o → (far : ℕ) (w : Tree) (b : ℕ) (s : List ℕ) → o ≡ reached far w b s → at ≤ b → Notes one doc at row parent o S S
  notes_bare h far w b s e l =
      let z = every_reached h far w b s e in
      notes_known far w b s e (rw (flats_one row parent w, z.none row parent) (kept_none doc at b S l))

-- ---- the reader of a key

pub data KeyIs (doc : List ℕ) (at : ℕ) : Type 0 where
  key_read : (m : ℕ) (s : Decoded) → key_r at (drop at doc) ≡ ok (leaf KEY at m s) m (drop m doc) → at < m → KeyIs doc at
  key_not : (p : ℕ) → key_r at (drop at doc) ≡ bad p → KeyIs doc at

tamed_ok : {X : Type 0} {d at : ℕ} {s : List ℕ} {v : X} {a : ℕ} {t : List ℕ} → Tamed d at s (ok v a t) → Moves d at s a t
tamed_ok (t_ok m) = m

firm_soft : {X : Type 0} {p : ℕ} {v : X} {a : ℕ} {t : List ℕ} → Firm (soft p v a t) → ⊥
firm_soft x = elim x [ ]

pub key_is : (doc : List ℕ) (at : ℕ) → KeyIs doc at
unfolding key_r spanned_r
key_is doc at = go (name_r at (drop at doc)) refl
  where
    go : (o : Out Decoded) → name_r at (drop at doc) ≡ o → KeyIs doc at
    go (ok s m t) e =
        let k : key_r at (drop at doc) ≡ ok (leaf KEY at m s) m t = ap (λ (u : Out Decoded). bind u (λ s e. ok (leaf KEY at e s) e)) e in
        let v = tamed_ok (subst (Tamed 1 at (drop at doc)) k (key_ll.exact.moves.tame at (drop at doc))) in
        key_read m s (k ∙ ap (ok (leaf KEY at m s) m) (rest_of doc v)) (omega (arith, forward v))
    go (soft p s m t) e =
        let k : key_r at (drop at doc) ≡ soft p (leaf KEY at m s) m t = ap (λ (u : Out Decoded). bind u (λ s e. ok (leaf KEY at e s) e)) e in
        absurd (firm_soft (subst Firm k (key_ll.firm at (drop at doc))))
    go (bad p) e = key_not p (ap (λ (u : Out Decoded). bind u (λ s e. ok (leaf KEY at e s) e)) e)

-- a key and what is behind it
pub record Keyed {X : Type 0} (doc : List ℕ) (at : ℕ) (k : Tree → Reader X) (v : X) (a : ℕ) : Type 0 where
  pub ends : ℕ
  pub text : Decoded
  pub is : key_r at (drop at doc) ≡ ok (leaf KEY at ends text) ends (drop ends doc)
  pub ahead : at < ends
  pub behind : Gives (k (leaf KEY at ends text) ends (drop ends doc)) v a

pub keyed : {X : Type 0} (doc : List ℕ) (at : ℕ) (k : Tree → Reader X) {v : X} {a : ℕ} → Gives (bind (key_r at (drop at doc)) k) v a → Keyed doc at k v a
keyed {X} doc at k {v} {a} g = go (key_is doc at)
  where
    go : KeyIs doc at → Keyed doc at k v a
    go (key_read m s e l) = record { ends = m; text = s; is = e; ahead = l; behind = subst (λ (u : Out Tree). Gives (bind u k) v a) e g }
    go (key_not p e) = absurd (gives_none (subst (λ (u : Out Tree). Gives (bind u k) v a) e g))

-- the key of a member is noted
pub kept_key : {doc : List ℕ} {at m a : ℕ} (row parent : ℕ) (s : Decoded) {S S' : List ℕ} → KeyAt doc at s.bytes m → m ≤ a → Handed doc S parent at S' → Kept doc at (flats row parent (forest (leaf KEY at m s ∷ []))) a S S'
unfolding flat
kept_key {at = at} {m} {a} row parent s k h e =
    let z : at ≤ at = omega arith in
    record { log = took_more e took_none; lie = keys_more {q = parent} z k (keys_none {a = m} {e = a} h) }
