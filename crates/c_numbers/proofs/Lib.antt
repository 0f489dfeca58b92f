-- `Laws` goes from what the calls promise of enums to what is promised of numbers.
pub mod Laws
