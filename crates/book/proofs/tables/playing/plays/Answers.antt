-- In range the table tells it, and no row is out of range.
use Rattle.std.proofs.Common.{rules}
use Rattle.book.proofs.TablesTell.{playing_told}
use Rattle.book.proofs.tables.playing.plays.Goals as goal

pub returns-then-p-lt-MOST_POSTS : goal.returns-then-p-lt-MOST_POSTS
returns-then-p-lt-MOST_POSTS c rows exact =
    let t = playing_told rows c.args.table.now exact.2 c.args.person.0 c.args.post.0 c.if-p-lt-MOST_POSTS.true.0 c.if-p-lt-MOST_POSTS.true.1 in search rules
