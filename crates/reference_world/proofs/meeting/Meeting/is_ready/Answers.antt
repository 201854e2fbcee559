use Rattle.reference_world.proofs.meeting.Meeting.is_ready.Goals as goal

pub returns-in-Some-item : goal.returns-in-Some-item
returns-in-Some-item c h v n c' q = rw (c.in-Some.is, c.in-Some-item.is) (c.send_ready.ensures h v n c' q)

pub returns-in-None : goal.returns-in-None
returns-in-None c h v n c' q = rw (c.in-Some.is, c.in-None.is) (c.receive_ready.ensures h v n c' q)
