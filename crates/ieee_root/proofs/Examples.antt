-- Worked roots, by computation. Assumes nothing.
use Rattle.std.proofs.Common.{◌≡◌, refl}
use lib.Ieee.{nan, binary32, binary64, of_bits}
use Rattle.ieee_root.specs.Sqrt.{sqrt_of, isqrt}

whole_part : isqrt 120 ≡ 10
unfolding isqrt
whole_part = refl

pub of_zero : sqrt_of binary64 (of_bits binary64 0) ≡ of_bits binary64 0
unfolding sqrt_of of_bits
of_zero = refl

pub of-minus-zero : sqrt_of binary64 (of_bits binary64 0x8000_0000_0000_0000) ≡ of_bits binary64 0x8000_0000_0000_0000
unfolding sqrt_of of_bits
of-minus-zero = refl

pub of-minus-one : sqrt_of binary64 (of_bits binary64 0xbff0_0000_0000_0000) ≡ nan
unfolding sqrt_of of_bits
of-minus-one = refl

pub of_one : sqrt_of binary64 (of_bits binary64 0x3ff0_0000_0000_0000) ≡ of_bits binary64 0x3ff0_0000_0000_0000
unfolding sqrt_of of_bits
of_one = refl

pub of_two : sqrt_of binary64 (of_bits binary64 0x4000_0000_0000_0000) ≡ of_bits binary64 0x3ff6_a09e_667f_3bcd
unfolding sqrt_of of_bits
of_two = refl

-- 2.25, whose root is 1.5
pub of-two-and-a-quarter : sqrt_of binary64 (of_bits binary64 0x4002_0000_0000_0000) ≡ of_bits binary64 0x3ff8_0000_0000_0000
unfolding sqrt_of of_bits
of-two-and-a-quarter = refl

pub of_four : sqrt_of binary64 (of_bits binary64 0x4010_0000_0000_0000) ≡ of_bits binary64 0x4000_0000_0000_0000
unfolding sqrt_of of_bits
of_four = refl

-- the smallest value above zero, and the largest value
pub of-smallest : sqrt_of binary64 (of_bits binary64 1) ≡ of_bits binary64 0x1e60_0000_0000_0000
unfolding sqrt_of of_bits
of-smallest = refl

pub of_largest : sqrt_of binary64 (of_bits binary64 0x7fef_ffff_ffff_ffff) ≡ of_bits binary64 0x5fef_ffff_ffff_ffff
unfolding sqrt_of of_bits
of_largest = refl

pub of-infinity : sqrt_of binary64 (of_bits binary64 0x7ff0_0000_0000_0000) ≡ of_bits binary64 0x7ff0_0000_0000_0000
unfolding sqrt_of of_bits
of-infinity = refl

of-two_in_binary32 : sqrt_of binary32 (of_bits binary32 0x4000_0000) ≡ of_bits binary32 0x3fb5_04f3
unfolding sqrt_of of_bits
of-two_in_binary32 = refl
