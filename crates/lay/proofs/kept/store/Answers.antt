-- `store` stores a row's words.
use Rattle.lay.specs.Keeping.{rowing, store_told}
use Rattle.lay.proofs.kept.store.Goals as goal

pub word-requires : goal.word-requires
word-requires c = search rowing

pub overflow_sub-next : goal.overflow_sub-next
overflow_sub-next c = search rowing

pub overflow_cast-next : goal.overflow_cast-next
overflow_cast-next c = search rowing

pub returns : goal.returns
returns c = let s = c.args in λ h. store_told _ _ _ h _ c.word.ensures.0 s.kind s.from s.to s.parent s.rows.now _ c.put_row.ensures
