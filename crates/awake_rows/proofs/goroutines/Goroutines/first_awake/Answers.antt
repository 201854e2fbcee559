use Rattle.awake_rows.proofs.Floors.{first_is_awake, nobody}
use Rattle.awake_rows.proofs.goroutines.Goroutines.first_awake.Goals as goal

pub returns-in-Some : goal.returns-in-Some
returns-in-Some c = first_is_awake c.args.self.now.rows c.in-Some.floor c.in-Some.ensures

pub returns-in-None : goal.returns-in-None
returns-in-None c = nobody c.args.self.now.rows c.in-None.ensures
