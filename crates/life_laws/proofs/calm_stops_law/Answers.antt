use Rattle.life_laws.proofs.Reopening.{calm_stops}
use Rattle.life_laws.proofs.calm_stops_law.Goals as goal

pub returns : goal.returns
returns c = calm_stops
