-- KEYS IN THE DOCUMENT, as the log knows them. Assumes nothing.
pub use Rattle.named.specs.Lie.{KeyAt, Keys, keys_none, keys_more, keys_le, keys_from, keys_to, keys_append}
