-- What lies on the lot goes, or the first cause is told.
use Rattle.register.specs.Answers.Answers.{closed}
use Rattle.register.proofs.Answering.{refuses}
use Rattle.register.proofs.register.Register.close_lot.Goals as goal

pub returns-in_err-check_open : goal.returns-in_err-check_open
returns-in_err-check_open g c = refuses _ _ _ _ _ c.from_residual.ensures.1 c.in_err-check_open.ensures

pub returns : goal.returns
returns g c =
    let done = c.clear_lot.ensures in
    record {
      answer = closed (c.in_ok-check_open.ensures.0) done.lots_left done.grants_left done.records_left done.count;
      grants = done.grants;
      records = done.records;
      book = done.book;
    }
