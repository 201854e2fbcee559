use Rattle.channel_core.proofs.channels.Channels.ready.Goals as goal

pub returns-in-Some-item : goal.returns-in-Some-item
returns-in-Some-item c o n c' q = rw (c.in-Some.is, c.in-Some-item.is) (c.can_send.ensures o n c' q)

pub returns-in-None : goal.returns-in-None
returns-in-None c o n c' q = rw (c.in-Some.is, c.in-None.is) (c.can_receive.ensures o n c' q)
