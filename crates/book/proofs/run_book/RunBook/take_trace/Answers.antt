use Rattle.book.proofs.Pieces.{hands_trace}
use Rattle.book.proofs.run_book.RunBook.take_trace.Goals as goal

pub returns-clause-piece : goal.returns-clause-piece
returns-clause-piece g c =
    let taken = c.in_ok-piece.ensures in
    hands_trace g.B.RunName.code g.B.RunName.limit g.B.RunName.traces c.args.self.now.book c.in_ok-piece.piece c.args.self.now.ours taken.run taken.stands
