mod TableTest
