-- Every sum of document 01 marked P is right, and every sum of document 02's orders 2, 3 and 5.
use mathlib.Core.Path.{refl}
use Rattle.element.specs.Form.{has_value}
use Rattle.element.specs.Sums.{IsRight, AreRight, value_sums, point_value_sums, radar_value_sums, covariance_value_sums}
use Rattle.element.proofs.Sums.{value_sums_right, point_value_sums_right, radar_value_sums_right, covariance_value_sums_right, right_append}
use Rattle.report.specs.Sums.{sums, point_sums, radar_sums, covariance_sums}
use Rattle.report.proofs.Computed.{reading}

pub sums_right : AreRight sums
unfolding IsRight AreRight sums reading has_value
sums_right = (refl, (refl, (refl, right_append value_sums _ value_sums_right (refl, (refl, tt)))))

pub point_sums_right : AreRight point_sums
unfolding IsRight AreRight point_sums reading
point_sums_right = right_append point_value_sums _ point_value_sums_right (refl, tt)

pub radar_sums_right : AreRight radar_sums
unfolding IsRight AreRight radar_sums reading
radar_sums_right =
    right_append radar_value_sums _ radar_value_sums_right (refl, (refl, (refl, (refl, (refl, (refl, (refl, (refl, (refl, tt)))))))))

pub covariance_sums_right : AreRight covariance_sums
unfolding IsRight AreRight covariance_sums reading
covariance_sums_right = right_append covariance_value_sums _ covariance_value_sums_right (refl, (refl, (refl, (refl, (refl, tt)))))
