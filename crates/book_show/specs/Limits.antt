-- The limits of the sizes of a book, by place.
use Rattle.std.specs.Prelude.{ℕ, slice_index_or}
use Rattle.book.specs.declared.form.Limit.{Limit}
use Rattle.book.specs.Form.{limits}

abbrev pub limit_at : ℕ → Limit
limit_at place = slice_index_or limits place (record { least = 0; most = 0 })
