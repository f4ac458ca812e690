use Rattle.fisca_writer.proofs.Shares.{first_share, last_share, rising_shares}
use Rattle.fisca_writer.proofs.range_law.parts_follow.Goals as goal

pub returns : goal.returns
returns c = record { first = first_share; last = last_share; rising = rising_shares }
